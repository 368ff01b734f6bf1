-- Groups and headers as lists without repeats, and how many groups there may be.
use Rattle.std.specs.Prelude.{ℕ, Bool, ◌&&◌, nat_le, List, [], ◌∷◌, ◌++◌, length, if◌then◌else◌}
use Rattle.std.specs.List.{fold, list_all, list_any}
use Rattle.std.specs.Str.{bytes_eq}
use Rattle.zre_values.specs.declared.limits.TheConstants.{GROUPS, GROUP_OCTETS}

-- one more group, unless it is there
abbrev pub with_group : List (List ℕ) → List ℕ → List (List ℕ)
with_group groups g = if list_any (λ x. bytes_eq x g) groups then groups else groups ++ g ∷ []

-- the groups, each once, in the order of their first places
abbrev pub distinct : List (List ℕ) → List (List ℕ)
distinct groups = fold with_group [] groups

-- groups within the limits of their number and of their names
abbrev pub are_few : List (List ℕ) → Bool
are_few groups = nat_le (length groups) GROUPS && list_all (λ g. nat_le (length g) GROUP_OCTETS) groups

-- one more header, unless its name is there
abbrev pub with_header : List (List ℕ × List ℕ) → List ℕ × List ℕ → List (List ℕ × List ℕ)
with_header headers h = if list_any (λ pair. bytes_eq pair.0 h.0) headers then headers else headers ++ h ∷ []

-- the headers, of equal names the first
abbrev pub first_named : List (List ℕ × List ℕ) → List (List ℕ × List ℕ)
first_named headers = fold with_header [] headers
