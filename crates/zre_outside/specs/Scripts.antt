-- How a script is played.
use Rattle.std.specs.Prelude.{◌≡◌, ℕ, Bool, false, List, [], ◌∷◌, drop, Option, Some, None}
use Rattle.zre_outside.specs.declared.entry.Input.{Input}
use Rattle.zre_outside.specs.declared.entry.Input.TheVariants as input
use Rattle.zre_outside.specs.declared.entry.Command.{Command}
use Rattle.zre_outside.specs.declared.turn.Turn.{Turn}
use Rattle.zre_outside.specs.declared.turn.Turn.TheVariants as turn
use Rattle.zre_outside.specs.Causes.{raised}
use Rattle.zre_outside.specs.Calls.{Calls}
use Rattle.zre_outside.specs.Worlds.{Log, is_look, after_turn}

abbrev pub entry_at : ℕ → Input → Turn
entry_at reading i = turn.Entry (record { at = reading; input = i })

-- the next turn: a command is done, an item of the script comes as it stands, and after the last one comes End
abbrev pub turn_of : List Turn → ℕ → Option Command → Turn
turn_of left reading (Some c) = entry_at reading (input.Do c)
turn_of [] reading None = entry_at reading input.End
turn_of (t ∷ ts) reading None = t

-- what is left after that turn: at a look the script waits for a command
abbrev pub left_after : List Turn → Option Command → List Turn
left_after left (Some c) = drop 1 left
left_after [] None = []
left_after (turn.Look ∷ ts) None = turn.Look ∷ ts
left_after (turn.Entry e ∷ ts) None = ts

-- the clock's reading of the last entry
abbrev pub reading_after : ℕ → Turn → ℕ
reading_after reading turn.Look = reading
reading_after reading (turn.Entry e) = e.at

-- nothing was seen yet
abbrev pub first_log : Log
first_log = record { begun = None; given = []; looks = 0; handed = []; done = [] }

-- a script as it is played: what is left of it, the clock's reading, whether it was looked last, and what was seen
pub record Scene : Type 0 where
  pub left : List Turn
  pub reading : ℕ
  pub looked : Bool
  pub told : Log

-- nothing of it was played yet
abbrev pub first_scene : List Turn → Scene
first_scene script = record { left = script; reading = 0; looked = false; told = first_log }

-- how often a look stood in a row, after this turn
abbrev pub row_later : ℕ → Turn → ℕ
row_later row turn.Look = raised row
row_later row (turn.Entry e) = 0

-- whether the next turn is a look
abbrev pub at_look : List Turn → Option Command → Bool
at_look [] None = false
at_look (t ∷ ts) None = is_look t
at_look left (Some c) = false

-- what it has seen changed by f, and nothing else
abbrev pub seen : (Log → Log) → Scene → Scene
seen f s = record s { told = f s.told }

-- a turn was answered by the script
pub record Plays (command : Option Command) (t : Turn) (old new : Scene) : Type 0 where
  pub is : t ≡ turn_of old.left old.reading command
  pub left : new.left ≡ left_after old.left command
  pub reading : new.reading ≡ reading_after old.reading t
  pub looked : new.looked ≡ is_look t
  pub told : new.told ≡ after_turn command t old.told

-- neither what is left of the script nor the reading changed
pub record Waits (old new : Scene) : Type 0 where
  pub left : new.left ≡ old.left
  pub reading : new.reading ≡ old.reading

-- a script as it is played, the looks in a row, and the calls of which some are to fail
pub record FailingScene : Type 0 where
  pub scene : Scene
  pub row : ℕ
  pub starts : Calls
  pub nexts : Calls
  pub faults : ℕ

-- the same where nothing but what was seen and whether it was looked changed
abbrev pub WaitsIn : FailingScene → FailingScene → Type 0
WaitsIn old new = Waits old.scene new.scene × (new ≡ record old { scene = new.scene })
