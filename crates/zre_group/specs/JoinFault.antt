-- When a group isn't joined.
use Rattle.std.specs.Prelude.{◌≡◌, ℕ, ◌<◌, false, List, length, IsTrue}
use Rattle.zre_values.specs.declared.limits.TheConstants.{OWN_GROUPS}
use Rattle.zre_group.specs.Own.{OwnGroups, is_joined}
use Rattle.zre_group.specs.declared.own.JoinFault.{JoinFault}
use Rattle.zre_group.specs.declared.own.JoinFault.TheVariants.{Same, Limit, OutOfMemory}

-- a group that is joined; else a limit that is reached; memory may be wanted only where neither is so
abbrev pub IsCause : OwnGroups → List ℕ → JoinFault → Type 0
IsCause own group Same = IsTrue (is_joined own group)
IsCause own group Limit = (is_joined own group ≡ false) × (length own.groups ≡ OWN_GROUPS)
IsCause own group OutOfMemory = (is_joined own group ≡ false) × (length own.groups < OWN_GROUPS)
