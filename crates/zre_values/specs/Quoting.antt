-- The text of an octet in quotes, by its first octet and its length.
use Rattle.std.specs.Prelude.{ℕ, ◌/◌, ◌%◌, List, [], ◌∷◌, if◌then◌else◌}
use Rattle.zre_values.specs.Text.{hex_digit, is_plain}

-- the octet itself or `%`
abbrev pub first_of : ℕ → ℕ
first_of b = if is_plain b then b else 37

-- one octet, or `%` and two digits
abbrev pub len_of : ℕ → ℕ
len_of b = if is_plain b then 1 else 3

-- both, with the two digits between
abbrev pub row_of : ℕ → List ℕ
row_of b = first_of b ∷ hex_digit (b / 16) ∷ hex_digit (b % 16) ∷ len_of b ∷ []
