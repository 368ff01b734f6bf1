-- Lists of rows, each under its number.
use Rattle.std.specs.Prelude.{◌≡◌, ℕ, Bool, false, List, [], ◌∷◌, Option, Some, None, if◌then◌else◌}
use Rattle.std.specs.BTreeMap.{is_at}
use Rattle.std.specs.Map.{lookup, remove_entry, set_value}
use Rattle.std.specs.Option.{option_map_or}
use Rattle.std.specs.Ordering.{nat_cmp}

-- the row of a number
abbrev pub row_at : {V : Type 0} → ℕ → List (ℕ × V) → Option V
row_at n es = lookup (is_at (nat_cmp n)) es

-- the rows with another one under a number that has one
abbrev pub with_row : {V : Type 0} → ℕ → V → List (ℕ × V) → List (ℕ × V)
with_row n v es = set_value (is_at (nat_cmp n)) es v

-- the rows but for that of a number
abbrev pub without_row : {V : Type 0} → ℕ → List (ℕ × V) → List (ℕ × V)
without_row n es = remove_entry (is_at (nat_cmp n)) es

-- the row of a number was changed so, if it has one, and no other row
pub record Changes {V : Type 0} (n : ℕ) (change : V → V) (before now : List (ℕ × V)) : Type 0 where
  pub found : (x : V) → row_at n before ≡ Some x → now ≡ with_row n (change x) before
  pub missing : row_at n before ≡ None → now ≡ before

-- a number has a row, which passes a test
abbrev pub passes_at : {V : Type 0} → (V → Bool) → List (ℕ × V) → ℕ → Bool
passes_at test es n = option_map_or test (row_at n es) false

-- the numbers of the rows that pass a test
abbrev pub numbers_of : {V : Type 0} → (V → Bool) → List (ℕ × V) → List ℕ
numbers_of test [] = []
numbers_of test (e ∷ es) = if test e.1 then e.0 ∷ numbers_of test es else numbers_of test es
