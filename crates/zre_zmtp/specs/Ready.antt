-- The body of a command (RFC 23, commands): one octet of length, a name, the rest. READY's rest is a list of
-- properties.
use Rattle.std.specs.Prelude.{ℕ, zero, suc, ◌+◌, Bool, false, ◌||◌, ◌&&◌, nat_le, ◌==◌, if◌then◌else◌, List, [], ◌∷◌}
use Rattle.std.specs.Prelude.{length, take, drop, Option, Some, None, option_map, option_and_then, codes, find}
use Rattle.std.specs.List.{list_all}
use Rattle.std.specs.Str.{str_eq_ignore_ascii_case}
use Rattle.std.specs.Int.{w32, from_be_bytes}

-- the name is not empty and lies within the body
abbrev pub has_name : List ℕ → Bool
has_name [] = false
has_name (n ∷ rest) = nat_le 1 n && nat_le n (length rest)

-- the name, as much of it as is there
abbrev pub name : List ℕ → List ℕ
name [] = []
name (n ∷ rest) = take n rest

-- what stands after the name
abbrev pub rest : List ℕ → List ℕ
rest [] = []
rest (n ∷ more) = drop n more

-- an octet from low to high
abbrev pub is_between : ℕ → ℕ → ℕ → Bool
is_between low high c = nat_le low c && nat_le c high

-- letters, digits, '-', '_', '.' and '+'
abbrev pub is_name_octet : ℕ → Bool
is_name_octet c =
    is_between 65 90 c || is_between 97 122 c || is_between 48 57 c || c == 45 || c == 95 || c == 46 || c == 43

-- four octets of length, and the value of that length, at the front of the octets
abbrev pub value_len : List ℕ → ℕ
value_len o = from_be_bytes w32 (take 4 o)

-- whether both are there
abbrev pub has_value : List ℕ → Bool
has_value o = nat_le 4 (length o) && nat_le (4 + value_len o) (length o)

-- a name with its octet of length, and a value with its four, at the front of the octets
abbrev pub has_property : List ℕ → Bool
has_property o = has_name o && list_all is_name_octet (name o) && has_value (rest o)

-- the name and the value of that property
abbrev pub property : List ℕ → List ℕ × List ℕ
property o = (name o, take (value_len (rest o)) (drop 4 (rest o)))

-- what stands after it
abbrev pub after_property : List ℕ → List ℕ
after_property o = drop (4 + value_len (rest o)) (rest o)

-- the octets as properties, of which there are at most as many as the number says
unfoldable pub properties_within : ℕ → List ℕ → Option (List (List ℕ × List ℕ))
properties_within n [] = Some []
properties_within zero (x ∷ o) = None
properties_within (suc n) (x ∷ o) =
    if has_property (x ∷ o)
    then option_map (λ ps. property (x ∷ o) ∷ ps) (properties_within n (after_property (x ∷ o))) else None

-- the properties that the octets spell one after another, if they do
abbrev pub properties : List ℕ → Option (List (List ℕ × List ℕ))
properties o = properties_within (length o) o

-- the value of the first property with that name, of whichever case
abbrev pub value_of : List ℕ → List (List ℕ × List ℕ) → Option (List ℕ)
value_of wanted ps = option_map (λ p. p.1) (find (λ p. str_eq_ignore_ascii_case p.0 wanted) ps)

-- the same of the body of READY
abbrev pub ready_value : List ℕ → List ℕ → Option (List ℕ)
ready_value wanted o = option_and_then (λ ps. value_of wanted ps) (properties (rest o))

-- the socket type that READY's body names
abbrev pub socket_type : List ℕ → Option (List ℕ)
socket_type o = ready_value (codes "Socket-Type") o

-- the identity that READY's body gives
abbrev pub identity : List ℕ → Option (List ℕ)
identity o = ready_value (codes "Identity") o
