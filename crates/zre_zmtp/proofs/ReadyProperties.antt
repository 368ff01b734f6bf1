-- Properties one after another.
use Rattle.std.proofs.Common.{◌≡◌, ℕ, zero, suc, ◌+◌, ◌≤◌, ◌<◌, Bool, true, false, cond, List, [], ◌∷◌, length, drop, Option, Some, None, refl, sym, ap, ◌∙◌, arith, inl, inr, option_map}
use Rattle.std.specs.Option.{option_or}
use Rattle.std.proofs.lemmas.Bool.{cases_Bool}
use Rattle.std.proofs.lemmas.List.{length-drop}
use Rattle.std.specs.Str.{str_eq_ignore_ascii_case}
use Rattle.zre_zmtp.specs.Ready.{name, has_property, property, after_property, properties_within, properties, value_of, value_len}
use Rattle.std.specs.List.{find}

pub after-shorter : (o : List ℕ) → has_property o ≡ true → length (after_property o) < length o
after-shorter [] h = absurd cc
after-shorter (n ∷ o) h = omega (arith, length-drop (4 + value_len (drop n o)) (drop n o), length-drop n o)

within-some : (n x : ℕ) (o : List ℕ) → has_property (x ∷ o) ≡ true → properties_within (suc n) (x ∷ o) ≡ option_map (λ ps. property (x ∷ o) ∷ ps) (properties_within n (after_property (x ∷ o)))
unfolding properties_within
within-some n x o h = rw h refl

within-none : (n x : ℕ) (o : List ℕ) → has_property (x ∷ o) ≡ false → properties_within n (x ∷ o) ≡ None
unfolding properties_within
within-none zero x o h = refl
within-none (suc n) x o h = rw h refl

within-nil : (n : ℕ) → properties_within n [] ≡ Some []
unfolding properties_within
within-nil zero = refl
within-nil (suc n) = refl

within-enough : (n m : ℕ) (o : List ℕ) → length o ≤ n → length o ≤ m → properties_within n o ≡ properties_within m o
within-enough n m [] h k = within-nil n ∙ sym (within-nil m)
within-enough zero m (x ∷ o) h k = absurd (omega (arith, h))
within-enough (suc n) zero (x ∷ o) h k = absurd (omega (arith, k))
within-enough (suc n) (suc m) (x ∷ o) h k =
    elim (cases_Bool (has_property (x ∷ o))) [
      | inl t ↦ (let s = after-shorter (x ∷ o) t in
          within-some n x o t ∙ ap (λ r. option_map (λ ps. property (x ∷ o) ∷ ps) r) (within-enough n m (after_property (x ∷ o)) (omega (arith, s, h)) (omega (arith, s, k))) ∙ sym (within-some m x o t))
      | inr f ↦ within-none (suc n) x o f ∙ sym (within-none (suc m) x o f)
    ]

pub properties-none : (o : List ℕ) → 0 < length o → has_property o ≡ false → properties o ≡ None
properties-none [] p h = absurd (omega (arith, p))
properties-none (x ∷ o) p h = within-none (length (x ∷ o)) x o h

pub properties-some : (o : List ℕ) → 0 < length o → has_property o ≡ true → properties o ≡ option_map (λ ps. property o ∷ ps) (properties (after_property o))
properties-some [] p h = absurd (omega (arith, p))
properties-some (x ∷ o) p h =
    let s = after-shorter (x ∷ o) h in
    within-some (length o) x o h ∙ ap (λ r. option_map (λ ps. property (x ∷ o) ∷ ps) r) (within-enough (length o) (length (after_property (x ∷ o))) (after_property (x ∷ o)) (omega (arith, s)) (omega arith))

pub properties-nil : (o : List ℕ) → length o ≤ 0 → properties o ≡ Some []
properties-nil [] h = within-nil 0
properties-nil (x ∷ o) h = absurd (omega (arith, h))

-- ---- the first value under a name

-- what a loop has found, and what the rest says
abbrev pub first_of : Option (List ℕ) → List ℕ → List (List ℕ × List ℕ) → Option (List ℕ)
first_of found wanted ps = option_or found (value_of wanted ps)

pub value-stops : (left wanted : List ℕ) (found : Option (List ℕ)) (total : Option (Option (List ℕ))) → 0 < length left → has_property left ≡ false
    → option_map (λ ps. first_of found wanted ps) (properties left) ≡ total → None ≡ total
value-stops left wanted found total p h e = sym (ap (λ r. option_map (λ ps. first_of found wanted ps) r) (properties-none left p h)) ∙ e

map-map : {A B C : Type 0} (f : A → B) (g : B → C) (o : Option A) → option_map g (option_map f o) ≡ option_map (λ x. g (f x)) o
map-map f g None = refl
map-map f g (Some x) = refl

same-map : {A B : Type 0} (f g : A → B) (o : Option A) → ((x : A) → f x ≡ g x) → option_map f o ≡ option_map g o
same-map f g None h = refl
same-map f g (Some x) h = ap (λ y. Some y) (h x)

pub one_more : {X : Type 0} (found : Option (List ℕ)) (t : Bool) (p : X × List ℕ) (o : Option (X × List ℕ))
    → option_or found (option_map (λ q. q.1) (cond t (Some p) o)) ≡ option_or (option_or found (cond t (Some p.1) None)) (option_map (λ q. q.1) o)
one_more None true p o = refl
one_more None false p o = refl
one_more (Some x) true p o = refl
one_more (Some x) false p o = refl

step : (left wanted : List ℕ) (found found' : Option (List ℕ)) (total : Option (Option (List ℕ))) → 0 < length left → has_property left ≡ true
    → ((ps : List (List ℕ × List ℕ)) → first_of found wanted (property left ∷ ps) ≡ first_of found' wanted ps)
    → option_map (λ ps. first_of found wanted ps) (properties left) ≡ total → option_map (λ ps. first_of found' wanted ps) (properties (after_property left)) ≡ total
step left wanted found found' total p h same e =
    sym (same-map (λ ps. first_of found wanted (property left ∷ ps)) (λ ps. first_of found' wanted ps) (properties (after_property left)) same)
    ∙ sym (map-map (λ ps. property left ∷ ps) (λ ps. first_of found wanted ps) (properties (after_property left)))
    ∙ sym (ap (λ r. option_map (λ ps. first_of found wanted ps) r) (properties-some left p h)) ∙ e

pub value-goes_on : (left wanted name value : List ℕ) (found found' : Option (List ℕ)) (total : Option (Option (List ℕ))) → 0 < length left → has_property left ≡ true → (name, value) ≡ property left
    → found' ≡ option_or found (cond (str_eq_ignore_ascii_case name wanted) (Some value) None)
    → option_map (λ ps. first_of found wanted ps) (properties left) ≡ total → option_map (λ ps. first_of found' wanted ps) (properties (after_property left)) ≡ total
value-goes_on left wanted name value found found' total p h is found-is e =
    step left wanted found found' total p h
    (λ ps. ap (λ q. first_of found wanted (q ∷ ps)) (sym is)
    ∙ one_more found (str_eq_ignore_ascii_case name wanted) (name, value) (find (λ q. str_eq_ignore_ascii_case q.0 wanted) ps)
    ∙ ap (λ v. first_of v wanted ps) (sym found-is)) e

option_or-none : (o : Option (List ℕ)) → option_or o None ≡ o
option_or-none None = refl
option_or-none (Some x) = refl

pub value-ends : (left wanted : List ℕ) (found : Option (List ℕ)) (total : Option (Option (List ℕ))) → length left ≤ 0
    → option_map (λ ps. first_of found wanted ps) (properties left) ≡ total → Some found ≡ total
value-ends left wanted found total p e =
    sym (ap (λ r. option_map (λ ps. first_of found wanted ps) r) (properties-nil left p) ∙ ap (λ r. Some r) (option_or-none found)) ∙ e
