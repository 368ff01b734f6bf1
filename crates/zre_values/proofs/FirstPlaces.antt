-- What stands before and after the first of some octet.
use Rattle.std.proofs.Common.{◌≡◌, ℕ, ◌+◌, ◌<◌, ◌==◌, ltb, true, false, List, [], ◌∷◌, ◌++◌, length, take, drop, Some, refl, sym, ap, ◌∙◌, arith, get_or}
use Rattle.std.specs.Prelude.{position}
use Rattle.std.specs.List.{list_any, position_or_len}
use Rattle.std.proofs.lemmas.Bool.{lt-ltb, eq-eqb, eqb-true, or_parts}
use Rattle.std.proofs.lemmas.List.{length-append, take-append-drop, drop_more}
use Rattle.std.proofs.lemmas.List.Quantifiers.{position-Some}

first_at : (o : ℕ) (x y : List ℕ) → list_any (λ b. b == o) x ≡ false → position_or_len (λ b. b == o) (x ++ (o ∷ y)) ≡ length x
first_at o [] y lacks = rw (eq-eqb o o refl) refl
first_at o (b ∷ x) y lacks =
    let p = or_parts (b == o) (list_any (λ c. c == o) x) lacks in
    rw (p.0, first_at o x y p.1) (omega arith)

-- the first o after octets without it
pub position-split : (o : ℕ) (x y : List ℕ) → list_any (λ b. b == o) x ≡ false → position (λ b. b == o) (x ++ (o ∷ y)) ≡ Some (length x)
position-split o x y lacks =
    let at = first_at o x y lacks in
    let within : ltb (length x) (length (x ++ (o ∷ y))) ≡ true = lt-ltb _ _ (omega (arith, length-append x (o ∷ y))) in
    rw (at, within) refl

-- a place that was found is that of an o
pub position-parts : (o : ℕ) (text : List ℕ) (i : ℕ) → position (λ b. b == o) text ≡ Some i → (i < length text) × (text ≡ take i text ++ (o ∷ drop 1 (drop i text)))
position-parts o text i e =
    let p = position-Some (λ b. b == o) text i 0 e in
    let is : get_or text i 0 ≡ o = eqb-true _ _ p.1 in
    let rest : drop i text ≡ get_or text i 0 ∷ drop (i + 1) text = drop_more text i 0 p.0 in
    let later : drop 1 (drop i text) ≡ drop (i + 1) text = ap (drop 1) rest in
    (p.0, sym (take-append-drop i text) ∙ ap (λ (r : List ℕ). take i text ++ r) (rest ∙ ap (λ (b : ℕ). b ∷ drop (i + 1) text) is ∙ ap (λ (r : List ℕ). o ∷ r) (sym later)))
