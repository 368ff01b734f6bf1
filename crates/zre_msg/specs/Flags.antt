-- Which frames are followed by another.
use Rattle.std.specs.Prelude.{ℕ, List, [], ◌∷◌}

-- the flag of a frame with these frames after it
abbrev pub flag_of : List (List ℕ) → ℕ
flag_of [] = 0
flag_of (body ∷ more) = 1
