-- What is required of the settings of a node.
use Rattle.std.specs.Prelude.{ℕ, Bool, true, not, ◌&&◌, nat_le, nat_lt, List, [], ◌∷◌, length}
use Rattle.std.specs.List.{list_all, list_any}
use Rattle.std.specs.Str.{bytes_eq}
use Rattle.zre_values.specs.declared.limits.TheConstants.{HEADERS}
use Rattle.zre_values.specs.declared.settings.Settings.{Settings}

-- no two headers have one name
abbrev pub are_apart : List (List ℕ × List ℕ) → Bool
are_apart [] = true
are_apart (h ∷ hs) = not (list_any (λ other. bytes_eq other.0 h.0) hs) && are_apart hs

-- a name of at most 255 octets, and a value of at most 1,024
abbrev pub is_fitting : List ℕ × List ℕ → Bool
is_fitting h = nat_le (length h.0) 255 && nat_le (length h.1) 1024

-- settings with which a node can be
abbrev pub is_valid : Settings → Bool
is_valid s =
    nat_le (length s.name) 255 && nat_le (length s.headers) HEADERS && list_all is_fitting s.headers
    && are_apart s.headers && nat_lt 0 s.port && nat_le 1 s.evasive && nat_le s.evasive s.expired
    && nat_le s.expired 86400000
