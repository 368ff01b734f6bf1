-- What stands between octets of one kind: lines between line feeds, fields between spaces, frames between commas.
use Rattle.std.specs.Prelude.{◌≡◌, ℕ, ◌==◌, false, List, [], ◌∷◌, Option, Some, None, option_and_then, All}
use Rattle.std.specs.List.{slice_split}

-- the parts of a text
abbrev pub between : ℕ → List ℕ → List (List ℕ)
between octet text = slice_split (λ b. b == octet) text

-- the octet doesn't stand in the text
abbrev pub Lacks : ℕ → List ℕ → Type 0
Lacks octet text = All (λ b. (b == octet) ≡ false) text

infixl 10 ◌>>=◌
abbrev pub ◌>>=◌ : {A B : Type 0} → Option A → (A → Option B) → Option B
o >>= f = option_and_then f o

-- a part alone, and two alone
abbrev pub one : List (List ℕ) → Option (List ℕ)
one [] = None
one (a ∷ []) = Some a
one (a ∷ b ∷ more) = None

abbrev pub two : List (List ℕ) → Option (List ℕ × List ℕ)
two [] = None
two (a ∷ []) = None
two (a ∷ b ∷ []) = Some (a, b)
two (a ∷ b ∷ c ∷ more) = None
