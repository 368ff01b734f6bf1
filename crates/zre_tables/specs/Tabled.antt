-- A map from numbers that has one entry for each of a list of things, under its number, in their order.
use Rattle.std.specs.Prelude.{◌≡◌, ℕ, List, [], ◌∷◌}

-- each thing has its entry, of which P tells
abbrev pub Tabled : {A V : Type 0} → (A → ℕ) → (A → V → Type 0) → List A → List (ℕ × V) → Type 0
Tabled key P [] [] = Unit {0}
Tabled key P [] (e ∷ es) = ⊥
Tabled key P (x ∷ xs) [] = ⊥
Tabled key P (x ∷ xs) (e ∷ es) = (e.0 ≡ key x) × P x e.1 × Tabled key P xs es
