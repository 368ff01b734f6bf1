-- The groups that a node itself is in.
use Rattle.std.specs.Prelude.{ℕ, ◌+◌, ◌%◌, List, [], ◌∷◌, ◌++◌, Bool}
use Rattle.std.specs.List.{list_any}
use Rattle.std.specs.Str.{bytes_eq}
use Rattle.zre_values.specs.Lists.{without}

-- the groups in the order of joining, and how often one was joined or left, modulo 256
pub record OwnGroups : Type 0 where
  pub groups : List (List ℕ)
  pub status : ℕ

abbrev pub none_joined : OwnGroups
none_joined = record { groups = []; status = 0 }

abbrev pub is_joined : OwnGroups → List ℕ → Bool
is_joined own group = list_any (λ joined. bytes_eq joined group) own.groups

abbrev pub next_status : OwnGroups → ℕ
next_status own = (own.status + 1) % 256

-- the group after the others
abbrev pub with_joined : OwnGroups → List ℕ → OwnGroups
with_joined own group = record { groups = own.groups ++ group ∷ []; status = next_status own }

-- the others in their order
abbrev pub with_left : OwnGroups → List ℕ → OwnGroups
with_left own group = record { groups = without group own.groups; status = next_status own }
