-- A node stands for a journal.
use Rattle.std.specs.Prelude.{◌≡◌, ℕ, Bool, true, false, List, [], ◌∷◌, ◌++◌, Result, OnOk}
use Rattle.zre_outside.specs.declared.entry.Entry.{Entry}
use Rattle.zre_values.specs.declared.memory.OutOfMemory.{OutOfMemory}
use Rattle.zre_values.specs.declared.settings.Settings.{Settings as Config}
use Rattle.zre_zmtp.specs.Looks.{Looks}
use Rattle.zre_journal.specs.Chronicle.{Mark}
use Rattle.zre_journal.specs.Events.{chronicle, events, acts, events_at}
use Rattle.zre_journal.specs.Done.{acts_at}
use Rattle.zre_journal.specs.Happens.{has_stopped, with_entry}
use Rattle.zre_journal.specs.Held.{kept}
use Rattle.zre_node.specs.Brings.{octets_of}
use Rattle.zre_node.specs.declared.effects.Effects.{Effects}
use Rattle.zre_node.specs.declared.effects.Step.{Step}
use Rattle.zre_node.specs.declared.node.Node.{Node}
use Rattle.zre_node.specs.declared.tables.Tables.{Tables}
use Rattle.zre_node.specs.Stands.{Holds, Rests}

-- the tables hold what follows from H, which has stopped or goes on
pub record StandsIn (g : Config) (H : List Mark) (t : Tables) : Type 0 where
  pub stopped : t.stopped ≡ has_stopped H
  pub going : has_stopped H ≡ false → Holds g H t
  pub resting : has_stopped H ≡ true → Rests g H t

-- an entry was taken after H: the tables hold with it, and what it tells and asks for was added
pub record Took (g : Config) (e : Entry) (H : List Mark) (t : Tables) (before now : Effects) : Type 0 where
  pub stands : StandsIn g (with_entry g e H) t
  pub events : now.events ≡ before.events ++ events_at g e H
  pub acts : now.acts ≡ before.acts ++ acts_at g e H

-- whatever the tables t hold, a call took an entry
abbrev pub Takes : Entry → Tables → Tables → Effects → Effects → Result (Unit {0}) OutOfMemory → Type 0
Takes e t t' before now result =
    (g : Config) (H : List Mark) → before.pushed ≡ [] → Holds g H t → OnOk result (Took g e H t' before now)

-- and its looks were paid for by the octets that the entry brings
abbrev pub TakesLooks : Entry → Tables → ℕ → ℕ → Result (Unit {0}) OutOfMemory → Type 0
TakesLooks e t looks looks' result =
    (g : Config) (H : List Mark) → Holds g H t →
    Looks looks looks' (kept g H) (kept g (with_entry g e H)) (octets_of e.input) result

-- the node found no memory for a step, and takes no more of them
abbrev pub is_spent : Node → Bool
is_spent n = n.spent

-- the same node while an entry is taken: it tells and asks for nothing yet
abbrev pub beginning : Node → Node
beginning n = record n { spent = true; effects = record { events = []; acts = []; pushed = [] } }

-- the node stands for the journal J: its tables hold what follows from it
pub record StandsFor (g : Config) (J : List Entry) (n : Node) : Type 0 where
  pub stands : StandsIn g (chronicle g J) n.tables
  pub whole : is_spent n ≡ false

-- from J to J and one entry, with what it tells and asks for
pub record IsStep (g : Config) (J : List Entry) (e : Entry) (n : Node) (s : Step) : Type 0 where
  pub stands : StandsFor g (J ++ e ∷ []) n
  pub told : events g (J ++ e ∷ []) ≡ events g J ++ s.events
  pub done : acts g (J ++ e ∷ []) ≡ acts g J ++ s.acts

-- whatever the node stands for, the looks of a step with an entry were paid for by the octets that the entry brings
abbrev pub StepsLooks : {A : Type 0} → Node → Entry → ℕ → ℕ → Result A OutOfMemory → Type 0
StepsLooks n e looks looks' result =
    (g : Config) (J : List Entry) → StandsFor g J n →
    Looks looks looks' (kept g (chronicle g J)) (kept g (chronicle g (J ++ e ∷ []))) (octets_of e.input) result
