-- Schedules as they are read: a head, and a line for each move.
use Rattle.std.specs.Prelude.{◌≡◌, ℕ, ◌+◌, ◌==◌, Bool, not, ◌&&◌, nat_le, if◌then◌else◌, List, [], ◌∷◌, length, Option}
use Rattle.std.specs.Prelude.{Some, None, is_some, codes}
use Rattle.std.specs.Str.{bytes_eq}
use Rattle.zre_capture.specs.Parts.{between}
use Rattle.zre_capture.specs.declared.format.TheConstants.{LINE_OCTETS}
use Rattle.zre_net.specs.declared.limits.TheConstants.{LINES, OCTETS}
use Rattle.zre_net.specs.declared.moves.Move.{Move}
use Rattle.zre_net.specs.Fields.{move_of}

-- what stands between line feeds; what stands after the last is no line
abbrev pub parts_in : List ℕ → List (List ℕ)
parts_in text = between 10 text

abbrev pub but_last : List (List ℕ) → List (List ℕ)
but_last [] = []
but_last (last ∷ []) = []
but_last (line ∷ next ∷ more) = line ∷ but_last (next ∷ more)

-- the lines of a text, without their line feeds
abbrev pub lines_in : List ℕ → List (List ℕ)
lines_in text = but_last (parts_in text)

-- the first line is the head, and every other says a move
unfoldable pub says : ℕ → List ℕ → Bool
says n line = if n == 1 then bytes_eq line (codes "zre-schedule 1") else is_some (move_of line)

-- the line n, whose line feed is this octet of the text, is one of a schedule within the limits
abbrev pub is_line : ℕ → ℕ → List ℕ → Bool
is_line n end line = nat_le n LINES && nat_le end OCTETS && nat_le (length line) LINE_OCTETS && says n line

-- the number of the first line that isn't, where the first of these has the number n and stands after so many octets.
-- What stands after the last line feed is a line without one; and a text without a line lacks the head.
unfoldable pub bad_from : ℕ → ℕ → List (List ℕ) → Option ℕ
bad_from n used [] = None
bad_from n used (last ∷ []) = if (length last == 0) && not (n == 1) then None else Some n
bad_from n used (line ∷ next ∷ more) =
    if is_line n (used + (length line + 1)) line then bad_from (n + 1) (used + (length line + 1)) (next ∷ more)
    else Some n

-- the first line that is no line of a schedule
abbrev pub bad_line : List ℕ → Option ℕ
bad_line text = bad_from 1 0 (parts_in text)

-- the moves of lines, without those that say none
abbrev pub with_first : Option Move → List Move → List Move
with_first None ms = ms
with_first (Some m) ms = m ∷ ms

abbrev pub moves_in : List (List ℕ) → List Move
moves_in [] = []
moves_in (line ∷ lines) = with_first (move_of line) (moves_in lines)

-- the moves of a schedule: its first line is the head
abbrev pub moves_of : List (List ℕ) → List Move
moves_of [] = []
moves_of (head ∷ lines) = moves_in lines

-- the next of the moves that are left, if there is one, and those after it
abbrev pub IsNext : Option Move → List Move → List Move → Type 0
IsNext None left after = (left ≡ []) × (after ≡ [])
IsNext (Some m) left after = left ≡ m ∷ after
