-- The history of a schedule: its moves so far, the newest first, each with the turn that it gave to a node.
-- Every fact about a moment is a question that is asked of this list.
use Rattle.std.specs.Prelude.{◌≡◌, ℕ, ◌+◌, List, [], ◌∷◌, Option, Some, None, if◌then◌else◌, nat_eq}
use Rattle.zre_values.specs.declared.peer_id.PeerId.{PeerId}
use Rattle.zre_outside.specs.declared.entry.Entry.{Entry}
use Rattle.zre_values.specs.declared.settings.Settings.{Settings as Config}
use Rattle.zre_journal.specs.Chronicle.{Mark, followed}
use Rattle.zre_journal.specs.Events.{chronicle}
use Rattle.zre_net.specs.declared.moves.Move.{Move}
use Rattle.zre_net.specs.declared.moves.Move.TheVariants as move
use Rattle.zre_net.specs.Lists.{nth}

-- a node from one start to its crash: which start of the schedule it is, at which node and when, with which settings
pub record Incarnation : Type 0 where
  pub number : ℕ
  pub node : ℕ
  pub since : ℕ
  pub settings : Config

-- an entry comes in the journal of an incarnation
pub record NodeTurn : Type 0 where
  pub who : Incarnation
  pub entry : Entry

-- a move, and the turn that it gives, if it gives one
pub data Happening : Type 0 where
  Happens : (m : Move) → (brings : Option NodeTurn) → Happening

-- what all of it says, the oldest first
abbrev pub gathered : {A : Type 0} → (Happening → Option A) → List Happening → List A
gathered f [] = []
gathered f (h ∷ H) = followed (gathered f H) (f h)

-- ---- starts and crashes

-- a node of a schedule has no headers, and the usual times
abbrev pub settings_of : PeerId → List ℕ → List ℕ → ℕ → Config
settings_of id name host port =
    record { id = id; name = name; headers = []; host = host; port = port; evasive = 5000; expired = 30000 }

abbrev pub starts : List Happening → ℕ
starts [] = 0
starts (Happens (move.Start n at id name host port) t ∷ H) = starts H + 1
starts (_ ∷ H) = starts H

-- who starts, after H
abbrev pub started : Happening → List Happening → Option Incarnation
started (Happens (move.Start n at id name host port) t) H =
    Some (record { number = starts H + 1; node = n; since = at; settings = settings_of id name host port })
started _ H = None

-- all incarnations so far, in order
abbrev pub incarnations : List Happening → List Incarnation
incarnations [] = []
incarnations (h ∷ H) = followed (incarnations H) (started h H)

-- it is one of these, under its number
abbrev pub IsKnown : List Happening → Incarnation → Type 0
IsKnown H a = nth a.number (incarnations H) ≡ Some a

-- the incarnation that runs at node n
abbrev pub running : ℕ → List Happening → Option Incarnation
running n [] = None
running n (Happens (move.Start k at id name host port) t ∷ H) =
    if nat_eq n k
    then Some (record { number = starts H + 1; node = k; since = at; settings = settings_of id name host port })
    else running n H
running n (Happens (move.Crash k) t ∷ H) = if nat_eq n k then None else running n H
running n (_ ∷ H) = running n H

-- ---- journals

abbrev pub entry_of : Incarnation → Happening → Option Entry
entry_of a (Happens m None) = None
entry_of a (Happens m (Some t)) = if nat_eq a.number t.who.number then Some t.entry else None

-- the journal of an incarnation
abbrev pub journal : Incarnation → List Happening → List Entry
journal a H = gathered (entry_of a) H

-- its chronicle
abbrev pub chronicle_of : Incarnation → List Happening → List Mark
chronicle_of a H = chronicle a.settings (journal a H)
