-- Entries about links.
use Rattle.std.specs.Prelude.{◌≡◌, ℕ, ◌||◌, nat_eq, List, ◌∷◌, ◌++◌, map, Option, IfSome, IsSome}
use Rattle.std.specs.List.{list_any}
use Rattle.zre_outside.specs.declared.entry.Entry.{Entry}
use Rattle.zre_outside.specs.declared.entry.Input.{Input}
use Rattle.zre_peer.specs.declared.causes.Cause.{Cause}
use Rattle.zre_values.specs.declared.settings.Settings.{Settings as Config}
use Rattle.zre_journal.specs.Chronicle.{Mark, Comes, PutsPong, after}
use Rattle.zre_journal.specs.Done.{names}
use Rattle.zre_journal.specs.LinkEntries.{at_reply, end_by}
use Rattle.zre_journal.specs.Peers.{life}
use Rattle.zre_node.specs.Stands.{Holds}
use Rattle.zre_node.specs.declared.tables.Tables.{Tables}
use Rattle.zre_node.specs.declared.effects.Effects.{Effects}

-- the link that an entry names is among those that are to be offered
pub record Notes (i : Input) (before now : Effects) : Type 0 where
  pub events : now.events ≡ before.events
  pub acts : now.acts ≡ before.acts
  pub pushed : (l : ℕ) → list_any (nat_eq l) now.pushed ≡ (list_any (nat_eq l) before.pushed || names l i)

-- PONGs with these contexts are put on link l
abbrev pub pongs : ℕ → List (List ℕ) → List Mark
pongs l ts = map (λ t. PutsPong l t) ts

-- the entry e came after H, the tables hold with the PONGs that it put on link l, and it ends the peer of l for this
-- cause, if for any
pub record IsReplied (g : Config) (H : List Mark) (e : Entry) (l : ℕ) (why : Option Cause) (t : Tables) : Type 0 where
  pub contexts : List (List ℕ)
  pub holds : Holds g (after (pongs l contexts) (Comes e ∷ H)) t
  pub brings : at_reply g l (life l H) H (Comes e ∷ H) ≡ pongs l contexts ++ end_by g l why
  pub known : IfSome why (λ cause. IsSome (life l (after (pongs l contexts) (Comes e ∷ H))))
