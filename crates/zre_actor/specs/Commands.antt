-- The command pipe. H is what the actor popped and then what is queued, each command with its caller's number and the
-- numbers that this caller had absorbed when it put it.
use Rattle.std.specs.Prelude.{◌≡◌, ℕ, zero, suc, ◌+◌, ◌≤◌, ◌==◌, Bool, true, false, cond, List, [], ◌∷◌, ◌++◌, map}
use Rattle.std.specs.Prelude.{take, drop, length}
use mathlib.Core.Option.{some}
use lib.ListN.{get_elem?}
use Rattle.zre_outside.specs.declared.entry.Command.{Command}
use Rattle.zre_actor.specs.declared.views.Placed.{Placed}
use Rattle.zre_actor.specs.declared.views.CommandView.{CommandView}

abbrev pub placed : ℕ → List ℕ → Command → Placed
placed n ended c = record { number = n; ended = ended; command = c }

abbrev pub view : Bool → List Placed → List ℕ → List ℕ → List ℕ → List Placed → CommandView
view actor popped own ended unused put =
    record { actor = actor; popped = popped; own = own; ended = ended; unused = unused; put = put }

-- how often n stands in a list
abbrev pub times : ℕ → List ℕ → ℕ
times n [] = 0
times n (m ∷ ms) = cond (m == n) 1 0 + times n ms

-- what was put under the number n, in order
abbrev pub under : ℕ → List Placed → List Placed
under n [] = []
under n (e ∷ es) = cond (e.number == n) (e ∷ under n es) (under n es)

-- how often the commands name n as ended
abbrev pub naming : ℕ → List Placed → ℕ
naming n [] = 0
naming n (e ∷ es) = times n e.ended + naming n es

-- no command stands after one that names its number as ended
abbrev pub Closed : List Placed → Type 0
Closed [] = Unit {0}
Closed (e ∷ es) = ((n : ℕ) → 1 ≤ times n e.ended → under n es ≡ []) × Closed es

-- f of each pass, added up
abbrev pub total : (CommandView → ℕ) → List CommandView → ℕ
total f [] = 0
total f (v ∷ vs) = f v + total f vs

-- how often n stands in these numbers of the passes
abbrev pub among : (CommandView → List ℕ) → ℕ → List CommandView → ℕ
among f n views = total (λ v. times n (f v)) views

-- a caller's own number and those that it absorbed
abbrev pub live : CommandView → List ℕ
live v = v.own ++ v.ended

-- these, and the unused ones
abbrev pub numbers : CommandView → List ℕ
numbers v = live v ++ v.unused

-- F holds of each pass
abbrev pub Each : List CommandView → (CommandView → Type 0) → Type 0
Each views F = (pass : ℕ) (v : CommandView) → get_elem? views pass ≡ some v → F v

pub record Kept (out history : List Placed) (views : List CommandView) : Type 0 where
  -- exactly one pass is the actor's, and every other has popped nothing
  pub actor : total (λ v. cond v.actor 1 0) views ≡ 1
  pub popped : Each views (λ v. v.popped ≡ cond v.actor out [])
  -- every number is from 1 to 16, and none is in two passes or twice in one
  pub range : (n : ℕ) → 1 ≤ among numbers n views → (1 ≤ n) × (n ≤ 16)
  pub apart : (n : ℕ) → among numbers n views ≤ 1
  -- what a pass put under an own or ended number is what the history has under it, and it put nothing else
  pub puts : Each views (λ v. (n : ℕ) → 1 ≤ times n (live v) → under n history ≡ under n v.put)
  pub alone : Each views (λ v. (n : ℕ) → times n (live v) ≡ 0 → under n v.put ≡ [])
  -- every command has an own or ended number of some pass
  pub known : (n : ℕ) → among live n views ≡ 0 → under n history ≡ []
  -- a number that a command names as ended is an ended number of some pass, and no command under it stands after that
  -- command
  pub named : (n : ℕ) → among (λ v. v.ended) n views ≡ 0 → naming n history ≡ 0
  pub closed : Closed history

abbrev pub command_of : Placed → Command
command_of e = e.command

abbrev pub Rule : List Command → List CommandView → Type 0
Rule items views =
    (popped : List Placed) × (queued : List Placed) × (map command_of queued ≡ items)
    × Kept popped (popped ++ queued) views

-- k numbers from a on
abbrev pub row : ℕ → ℕ → List ℕ
row a zero = []
row a (suc k) = a ∷ row (suc a) k

-- the first pass is the actor's and has all numbers
abbrev pub first : CommandView
first = view true [] [] [] (row 1 16) []

-- a split gives the first unused number to a new caller
abbrev pub without_one : CommandView → CommandView
without_one v = view v.actor v.popped v.own v.ended (drop 1 v.unused) v.put

abbrev pub one_caller : CommandView → CommandView
one_caller v = view false [] (take 1 v.unused) [] [] []

-- a join keeps what both put, and the other's numbers have ended
abbrev pub joined : CommandView → CommandView → CommandView
joined v w = view v.actor v.popped v.own (v.ended ++ live w) (v.unused ++ w.unused) (v.put ++ w.put)

abbrev pub nobody : CommandView
nobody = view false [] [] [] [] []

-- a push adds the command under the caller's own number
abbrev pub head_or : List ℕ → ℕ
head_or [] = 0
head_or (n ∷ ns) = n

abbrev pub written : CommandView → Command → Placed
written v c = placed (head_or v.own) v.ended c

abbrev pub wrote : CommandView → Command → CommandView
wrote v c = view v.actor v.popped v.own v.ended v.unused (v.put ++ written v c ∷ [])

-- a pop adds the command to what the actor popped
abbrev pub Reads : CommandView → Command → CommandView → Type 0
Reads v c w = (e : Placed) × (e.command ≡ c) × (w ≡ view v.actor (v.popped ++ e ∷ []) v.own v.ended v.unused v.put)

-- what the actor's pass learns once it has every number: all that was put was popped or is queued
pub record Accounts (v : CommandView) (items : List Command) : Type 0 where
  pub queued : List Placed
  pub are_queued : map command_of queued ≡ items
  pub all_put : (n : ℕ) → under n (v.popped ++ queued) ≡ under n v.put
  pub known : (n : ℕ) → ¬ ((1 ≤ n) × (n ≤ 16)) → under n (v.popped ++ queued) ≡ []
  pub closed : Closed (v.popped ++ queued)
  pub apart : (n : ℕ) → times n (numbers v) ≤ 1

-- the pass has every number
abbrev pub HasAll : CommandView → Type 0
HasAll v = length (numbers v) ≡ 16

-- a caller has one number, and put nothing under other numbers than its own and the ended ones
abbrev pub IsCaller : CommandView → Type 0
IsCaller v =
    (v.actor ≡ false) × (v.own ≡ head_or v.own ∷ []) × (v.unused ≡ [])
    × ((n : ℕ) → times n (live v) ≡ 0 → under n v.put ≡ [])

-- the actor puts nothing
abbrev pub IsActor : CommandView → Type 0
IsActor v = (v.actor ≡ true) × (v.own ≡ []) × (v.ended ≡ []) × (v.put ≡ [])
