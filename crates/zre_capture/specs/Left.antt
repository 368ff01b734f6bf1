-- What a generator of the exercise has still to give.
use Rattle.std.specs.Prelude.{◌≡◌, ℕ, ◌+◌, ◌-◌, List, [], ◌∷◌, ◌++◌, take, drop, Option, Some, None}
use Rattle.zre_outside.specs.declared.entry.Entry.{Entry}
use Rattle.zre_capture.specs.Exercise.{heard, opened, introduced, peers_from, comes, messages_from}
use Rattle.zre_capture.specs.declared.exercise.Exercise.{Exercise}
use Rattle.zre_capture.specs.declared.stage.ExerciseStage.{ExerciseStage}
use Rattle.zre_capture.specs.declared.stage.ExerciseStage.TheVariants.{Beacon, Opened, Introduction}
use Rattle.zre_capture.specs.declared.stage.ExerciseStage.TheVariants.{Messages, First, Second, Done}

-- the messages that were not begun, and the end
abbrev pub messages_left : Exercise → List Entry
messages_left e = messages_from e.peers e.x e.message (e.messages - e.message)

-- the peers after this one, and all that follows them
abbrev pub after_peer : ℕ → Exercise → List Entry
after_peer i e = peers_from (i + 1) (e.peers - (i + 1)) ++ messages_left e

-- the two pieces of the message that was spelled last
abbrev pub first_of : Exercise → List ℕ
first_of e = take e.cut e.spelled

abbrev pub second_of : Exercise → List ℕ
second_of e = drop e.cut e.spelled

-- what is left at a stage
abbrev pub left_at : ExerciseStage → Exercise → List Entry
left_at (Beacon i) e = heard i ∷ opened i ∷ introduced i ∷ after_peer i e
left_at (Opened i) e = opened i ∷ introduced i ∷ after_peer i e
left_at (Introduction i) e = introduced i ∷ after_peer i e
left_at Messages e = messages_left e
left_at (First j) e = comes e.peers j (first_of e) ∷ comes e.peers j (second_of e) ∷ messages_left e
left_at (Second j) e = comes e.peers j (second_of e) ∷ messages_left e
left_at Done e = []

-- the entries that are left, in order
abbrev pub left : Exercise → List Entry
left e = left_at e.stage e

-- a call gave the first of what was left, or nothing where nothing was left
abbrev pub Gives : Option Entry → List Entry → List Entry → Type 0
Gives (Some e) before now = before ≡ e ∷ now
Gives None before now = (before ≡ []) × (now ≡ [])
