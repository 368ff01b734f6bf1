-- Two captures, one after the other: where the second one begins.
use Rattle.std.specs.Prelude.{ℕ, ◌==◌, Bool, true, false, ◌&&◌, ◌||◌, if◌then◌else◌, List, [], ◌∷◌, codes}
use Rattle.std.specs.List.{count_by}

-- the first field of a head
abbrev pub mark : List ℕ
mark = codes "zre-capture"

-- what ends a field
abbrev pub is_separator : ℕ → Bool
is_separator b = b == 32 || b == 10

-- whether this is the first field of a text
abbrev pub is_first_field : (field text : List ℕ) → Bool
is_first_field [] [] = true
is_first_field [] (b ∷ text) = is_separator b
is_first_field (c ∷ field) [] = false
is_first_field (c ∷ field) (b ∷ text) = b == c && is_first_field field text

-- the octets of both captures: the second begins with the first line, but for that of the first, whose first field is
-- that of a head. Without such a line there is no second one.
abbrev pub cut : List ℕ → List ℕ × List ℕ
cut [] = ([], [])
cut (b ∷ o) = if b == 10 && is_first_field mark o then (b ∷ [], o) else (b ∷ (cut o).0, (cut o).1)

-- how many lines are finished
abbrev pub lines_of : List ℕ → ℕ
lines_of o = count_by (λ b. b == 10) o
