-- The texts of small values: identities, and octets in quotes.
use Rattle.std.specs.Prelude.{ℕ, ◌+◌, ◌/◌, ◌%◌, ◌==◌, nat_lt, nat_le, not, ◌&&◌, Bool, List, [], ◌∷◌, ◌++◌}
use Rattle.std.specs.Prelude.{if◌then◌else◌, flat_map}
use Rattle.std.specs.List.{join_by}
use Rattle.uuid.specs.Text.{simple_text, upper}
use Rattle.zre_values.specs.declared.peer_id.PeerId.{PeerId}

-- the thirty-two upper-case digits of an identity: the plain text form of its UUID
unfoldable pub id_text : PeerId → List ℕ
id_text id = simple_text upper id.0

-- the upper-case digit of a number below sixteen
abbrev pub hex_digit : ℕ → ℕ
hex_digit n = if nat_lt n 10 then 48 + n else 55 + n

-- the octets from `!` to `~` stand for themselves, but for `%`, `~`, `=` and `,`
abbrev pub is_plain : ℕ → Bool
is_plain b = nat_le 33 b && nat_le b 126 && not (b == 37) && not (b == 126) && not (b == 61) && not (b == 44)

-- every other octet is `%` and two digits
abbrev pub quoted_octet : ℕ → List ℕ
quoted_octet b = if is_plain b then b ∷ [] else 37 ∷ hex_digit (b / 16) ∷ hex_digit (b % 16) ∷ []

-- the quoted text of octets; that of no octets is `~`
abbrev pub quoted : List ℕ → List ℕ
quoted [] = 126 ∷ []
quoted (b ∷ bs) = flat_map quoted_octet (b ∷ bs)

-- the quoted members of a list joined by `,`; an empty list is `%`
abbrev pub quoted_list : List (List ℕ) → List ℕ
quoted_list [] = 37 ∷ []
quoted_list (x ∷ xs) = join_by quoted (44 ∷ []) (x ∷ xs)

-- a quoted name and its quoted value with `=` between
abbrev pub quoted_pair : List ℕ × List ℕ → List ℕ
quoted_pair p = quoted p.0 ++ 61 ∷ quoted p.1

-- the quoted pairs of a dictionary joined by `,`; an empty one is `%`
abbrev pub quoted_pairs : List (List ℕ × List ℕ) → List ℕ
quoted_pairs [] = 37 ∷ []
quoted_pairs (x ∷ xs) = join_by quoted_pair (44 ∷ []) (x ∷ xs)
