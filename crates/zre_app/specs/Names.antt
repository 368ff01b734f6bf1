-- The words of a call: its name, and the words after it.
use Rattle.std.specs.Prelude.{ℕ, Bool, false, not, List, [], ◌∷◌, Option, Some, None, if◌then◌else◌}
use Rattle.std.specs.List.{list_all}
use Rattle.std.specs.Str.{bytes_eq, is_utf8}

-- the first word is this name
abbrev pub is_named : List ℕ → List (List ℕ) → Bool
is_named name [] = false
is_named name (first ∷ words) = bytes_eq first name

-- the words after this name; none where it isn't the first one, or one isn't text
abbrev pub after_name : List ℕ → List (List ℕ) → Option (List (List ℕ))
after_name name [] = None
after_name name (first ∷ words) =
    if not (list_all is_utf8 (first ∷ words)) then None
    else if bytes_eq first name then Some words
    else None
