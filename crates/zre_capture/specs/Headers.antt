-- Headers in their text: members with commas between, each a quoted name and its quoted value with `=` between.
use Rattle.std.specs.Prelude.{ℕ, Bool, true, not, ◌&&◌, nat_le, if◌then◌else◌, List, [], ◌∷◌, ◌++◌, length, codes}
use Rattle.std.specs.Prelude.{Option, Some, None, option_map}
use Rattle.std.specs.List.{list_any}
use Rattle.std.specs.Str.{bytes_eq}
use Rattle.zre_values.specs.declared.limits.TheConstants.{HEADERS}
use Rattle.zre_capture.specs.Parts.{between, ◌>>=◌, two}
use Rattle.zre_capture.specs.Values.{short_of}

-- a header, from its two parts
unfoldable pub header_in : Option (List ℕ × List ℕ) → Option (List ℕ × List ℕ)
header_in parts = do
  p ← parts
  name ← short_of 255 p.0
  value ← short_of 1024 p.1
  Some (name, value)

-- a header, if a member is one
abbrev pub header_of : List ℕ → Option (List ℕ × List ℕ)
header_of member = header_in (two (between 61 member))

-- all of them, if each is one
unfoldable pub headers_in : List (List ℕ) → Option (List (List ℕ × List ℕ))
headers_in [] = Some []
headers_in (m ∷ ms) = do
  h ← header_of m
  hs ← headers_in ms
  Some (h ∷ hs)

-- headers, and those after them
abbrev pub with_more : List (List ℕ × List ℕ) → Option (List (List ℕ × List ℕ)) → Option (List (List ℕ × List ℕ))
with_more hs more = option_map (λ gs. hs ++ gs) more

-- the quoted name of a member
abbrev pub first_part : List (List ℕ) → List ℕ
first_part [] = []
first_part (name ∷ more) = name

abbrev pub name_in : List ℕ → List ℕ
name_in member = first_part (between 61 member)

-- one has this quoted name
abbrev pub have_name : List ℕ → List (List ℕ) → Bool
have_name name members = list_any (λ m. bytes_eq (name_in m) name) members

-- no two have one name: a name has one quoted text
abbrev pub are_named_apart : List (List ℕ) → Bool
are_named_apart [] = true
are_named_apart (m ∷ ms) = not (have_name (name_in m) ms) && are_named_apart ms

-- they are few, and no two have one name
abbrev pub are_listed : List (List ℕ) → Bool
are_listed members = nat_le (length members) HEADERS && are_named_apart members

-- headers that a node can have
unfoldable pub headers_of : List ℕ → Option (List (List ℕ × List ℕ))
headers_of field =
    if bytes_eq field (codes "%") then Some []
    else if are_listed (between 44 field) then headers_in (between 44 field) else None
