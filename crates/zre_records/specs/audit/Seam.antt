-- What is seen of the seam between two captures as their octets come.
use Rattle.std.specs.Prelude.{◌≡◌, ℕ, ◌+◌, ◌<◌, ◌==◌, Bool, true, false, ◌&&◌, if◌then◌else◌}
use Rattle.std.specs.Prelude.{List, [], ◌∷◌, length, take}
use Rattle.std.specs.Prelude.{drop, Option, Some, None}
use Rattle.std.specs.List.{fold}
use Rattle.zre_records.specs.audit.Cut.{mark, is_separator, lines_of}

-- what is awaited of the mark, where the unfinished line is a front of it and isn't the first, and how many lines are
-- finished
pub record Seeking : Type 0 where
  pub awaited : Option (List ℕ)
  pub lines : ℕ

-- what is awaited after so many octets of it
abbrev pub awaited_after : ℕ → List ℕ
awaited_after n = drop n mark

abbrev pub is_whole : Option (List ℕ) → Bool
is_whole None = false
is_whole (Some []) = true
is_whole (Some (c ∷ more)) = false

-- what is awaited after one more octet, in the same line and in any
abbrev pub same_line : Option (List ℕ) → ℕ → Option (List ℕ)
same_line None b = None
same_line (Some []) b = None
same_line (Some (c ∷ more)) b = if b == c then Some more else None

abbrev pub step : Option (List ℕ) → ℕ → Option (List ℕ)
step awaited b = if b == 10 then Some mark else same_line awaited b

abbrev pub after : Option (List ℕ) → List ℕ → Option (List ℕ)
after awaited o = fold step awaited o

-- the octet shows that the line before it began the second capture
abbrev pub is_seam : Option (List ℕ) → ℕ → Bool
is_seam awaited b = is_whole awaited && is_separator b

-- octets up to the first such, and from it on
abbrev pub parted : Option (List ℕ) → List ℕ → List ℕ × List ℕ
parted awaited [] = ([], [])
parted awaited (b ∷ o) =
    if is_seam awaited b then ([], b ∷ o) else (b ∷ (parted (step awaited b) o).0, (parted (step awaited b) o).1)

-- what came before it was seen that a second capture has begun, and since: its mark came before
abbrev pub before_seam : List ℕ → List ℕ
before_seam o = (parted None o).0

abbrev pub from_seam : List ℕ → List ℕ
from_seam o = (parted None o).1

-- octets have passed
pub record HasPassed (before : Seeking) (o : List ℕ) (now : Seeking) : Type 0 where
  pub awaited : now.awaited ≡ after before.awaited o
  pub lines : now.lines ≡ before.lines + lines_of o

abbrev pub IsPassed : Seeking → ℕ → Seeking → Type 0
IsPassed before b now = HasPassed before (b ∷ []) now

-- a piece has no such octet, and has passed
pub record IsUnparted (before : Seeking) (piece : List ℕ) (now : Seeking) : Type 0 where
  pub parts : parted before.awaited piece ≡ (piece, [])
  pub passed : HasPassed before piece now

-- or has the first one here, and what stands before it has passed
pub record IsParted (before : Seeking) (piece : List ℕ) (place : ℕ) (now : Seeking) : Type 0 where
  pub within : place < length piece
  pub parts : parted before.awaited piece ≡ (take place piece, drop place piece)
  pub passed : HasPassed before (take place piece) now
