-- Lines as they come, in any pieces.
use Rattle.std.specs.Prelude.{◌≡◌, ℕ, ◌<◌, ◌≤◌, Bool, true, false, List, [], ◌∷◌, ◌++◌, length}
use Rattle.zre_outside.specs.declared.entry.Command.{Command}
use Rattle.zre_capture.specs.Reading.{but_last}
use Rattle.zre_capture.specs.Journal.{lines_in}
use Rattle.zre_console.specs.declared.lines.line.TheConstants.{LINE_OCTETS}
use Rattle.zre_console.specs.lines.Orders.{orders_from, typed}

-- the last of some lines
abbrev pub last_of : List (List ℕ) → List ℕ
last_of [] = []
last_of (l ∷ []) = l
last_of (l ∷ m ∷ ls) = last_of (m ∷ ls)

-- what stands after the last line feed of a text: the line that isn't finished
abbrev pub unfinished : List ℕ → List ℕ
unfinished o = last_of (lines_in o)

-- the commands of the lines that text x finishes after text o
abbrev pub finished : List ℕ → List ℕ → List Command
finished o x = orders_from (length (lines_in o)) (but_last (lines_in (unfinished o ++ x)))

-- what is kept: the number of the line that isn't finished, what has come of it, and whether that is too long and
-- isn't kept
pub record Typing : Type 0 where
  pub line : ℕ
  pub left : List ℕ
  pub long : Bool

-- this much of a line has come: all of it is kept, or it is too long
abbrev pub Keeps : Bool → List ℕ → List ℕ → Type 0
Keeps false kept line = (kept ≡ line) × (length line ≤ LINE_OCTETS)
Keeps true kept line = LINE_OCTETS < length line

-- these octets were typed
pub record Typed (o : List ℕ) (t : Typing) : Type 0 where
  pub number : t.line ≡ length (lines_in o)
  pub keeps : Keeps t.long t.left (unfinished o)

-- a list has grown by the commands that a piece after o finishes
pub record Adds (o piece : List ℕ) (old new : List Command) : Type 0 where
  pub commands : List Command
  pub added : new ≡ old ++ commands
  pub more : typed (o ++ piece) ≡ typed o ++ commands

-- the same of a front of these commands
pub record AddsFront (o piece : List ℕ) (old new : List Command) : Type 0 where
  pub commands : List Command
  pub others : List Command
  pub added : new ≡ old ++ commands
  pub more : typed (o ++ piece) ≡ typed o ++ (commands ++ others)
