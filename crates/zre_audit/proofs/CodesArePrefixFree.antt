-- No code begins another one.
use Rattle.std.proofs.Common.{◌≡◌, ℕ, ◌≤◌, Bool, true, false, cond, ◌&&◌, ltb, eqb, nat_eq, List, [], ◌∷◌, ◌++◌, refl, sym, ap, ◌∙◌, arith, append_assoc, true≢false, eqb-true, eq-eqb, ltb-true, ltb-false}
use Rattle.std.proofs.lemmas.Bool.{and_parts}
use Rattle.std.proofs.lemmas.List.Concat.{flat_map-cons}
use Rattle.std.specs.Prelude.{flat_map}
use Rattle.zre_audit.specs.Prefixes.{begins}
use Rattle.zre_audit.specs.Coding.{escaped, part, parts}
use Rattle.zre_values.proofs.QuotedTexts.{heads}

-- ---- one octet

-- an octet before others, or the end of a list
abbrev by_size : Bool → ℕ → List ℕ → List ℕ
by_size low b r = cond low (1 ∷ b ∷ []) (b ∷ []) ++ r

octet-front : (b c : ℕ) (r s : List ℕ) → escaped b ++ r ≡ escaped c ++ s → (b ≡ c) × (r ≡ s)
octet-front b c r s e = by (ltb b 2) refl (ltb c 2) refl e
  where
    by : (p : Bool) → ltb b 2 ≡ p → (q : Bool) → ltb c 2 ≡ q → by_size p b r ≡ by_size q c s → (b ≡ c) × (r ≡ s)
    by true p true q z = let t = heads 1 1 (b ∷ r) (c ∷ s) z in heads b c r s t.1
    by true p false q z = let t = heads 1 c (b ∷ r) s z in let n = ltb-false c 2 q in absurd (let f = t.0 in omega (arith, f, n))
    by false p true q z = let t = heads b 1 r (c ∷ s) z in let n = ltb-false b 2 p in absurd (let f = t.0 in omega (arith, f, n))
    by false p false q z = heads b c r s z

no_end : (b : ℕ) (r s : List ℕ) → escaped b ++ r ≡ 0 ∷ s → ⊥
no_end b r s e = by (ltb b 2) refl e
  where
    by : (p : Bool) → ltb b 2 ≡ p → by_size p b r ≡ 0 ∷ s → ⊥
    by true p z = let t = (heads 1 0 (b ∷ r) s z).0 in omega (arith, t)
    by false p z = let t = (heads b 0 r s z).0 in let n = ltb-false b 2 p in omega (arith, t, n)

-- nor what stands after a 1 where it is above 1
no_mark : (n b : ℕ) (r s : List ℕ) → 2 ≤ n → escaped b ++ r ≡ 1 ∷ n ∷ s → ⊥
no_mark n b r s big e = by (ltb b 2) refl e
  where
    by : (p : Bool) → ltb b 2 ≡ p → by_size p b r ≡ 1 ∷ n ∷ s → ⊥
    by true p z = let t = (heads b n r s (heads 1 1 (b ∷ r) (n ∷ s) z).1).0 in let l = ltb-true b 2 p in omega (arith, t, l, big)
    by false p z = let t = (heads b 1 r (n ∷ s) z).0 in let m = ltb-false b 2 p in omega (arith, t, m)

-- ---- a part

opened : (b : ℕ) (o a : List ℕ) → part (b ∷ o) ++ a ≡ escaped b ++ (part o ++ a)
opened b o a =
    ap (λ z. (z ++ 0 ∷ []) ++ a) (flat_map-cons escaped b o)
    ∙ ap (λ z. z ++ a) (append_assoc (escaped b) (flat_map escaped o) (0 ∷ []))
    ∙ append_assoc (escaped b) (part o) a

pub part-front : (o p a b : List ℕ) → part o ++ a ≡ part p ++ b → (o ≡ p) × (a ≡ b)
part-front [] [] a b e = (refl, (heads 0 0 a b e).1)
part-front [] (c ∷ p) a b e = absurd (no_end c (part p ++ b) a (sym (opened c p b) ∙ sym e))
part-front (b ∷ o) [] a c e = absurd (no_end b (part o ++ a) c (sym (opened b o a) ∙ e))
part-front (b ∷ o) (c ∷ p) a d e =
    let t = octet-front b c (part o ++ a) (part p ++ d) (sym (opened b o a) ∙ e ∙ opened c p d) in
    let r = part-front o p a d t.1 in
    (ap (λ z. z ∷ o) t.0 ∙ ap (λ z. c ∷ z) r.0, r.1)

part-mark : (n : ℕ) (o a s : List ℕ) → 2 ≤ n → part o ++ a ≡ 1 ∷ n ∷ s → ⊥
part-mark n [] a s big e = let t = (heads 0 1 a (n ∷ s) e).0 in omega (arith, t)
part-mark n (b ∷ o) a s big e = no_mark n b (part o ++ a) s big (sym (opened b o a) ∙ e)

-- ---- parts

opened_all : (f : List ℕ) (fs : List (List ℕ)) (a : List ℕ) → parts (f ∷ fs) ++ a ≡ part f ++ (parts fs ++ a)
opened_all f fs a =
    ap (λ z. (z ++ 1 ∷ 2 ∷ []) ++ a) (flat_map-cons part f fs)
    ∙ ap (λ z. z ++ a) (append_assoc (part f) (flat_map part fs) (1 ∷ 2 ∷ []))
    ∙ append_assoc (part f) (parts fs) a

pub parts-front : (fs gs : List (List ℕ)) (a b : List ℕ) → parts fs ++ a ≡ parts gs ++ b → (fs ≡ gs) × (a ≡ b)
parts-front [] [] a b e = (refl, (heads 2 2 a b (heads 1 1 (2 ∷ a) (2 ∷ b) e).1).1)
parts-front [] (g ∷ gs) a b e = absurd (part-mark 2 g (parts gs ++ b) a (omega arith) (sym (opened_all g gs b) ∙ sym e))
parts-front (f ∷ fs) [] a b e = absurd (part-mark 2 f (parts fs ++ a) b (omega arith) (sym (opened_all f fs a) ∙ e))
parts-front (f ∷ fs) (g ∷ gs) a b e =
    let t = part-front f g (parts fs ++ a) (parts gs ++ b) (sym (opened_all f fs a) ∙ e ∙ opened_all g gs b) in
    let r = parts-front fs gs a b t.1 in
    (ap (λ z. z ∷ fs) t.0 ∙ ap (λ z. g ∷ z) r.0, r.1)

pub parts-mark : (fs : List (List ℕ)) (a s : List ℕ) → parts fs ++ a ≡ 1 ∷ 3 ∷ s → ⊥
parts-mark [] a s e = let t = (heads 2 3 a s (heads 1 1 (2 ∷ a) (3 ∷ s) e).1).0 in omega (arith, t)
parts-mark (f ∷ fs) a s e = part-mark 3 f (parts fs ++ a) s (omega arith) (sym (opened_all f fs a) ∙ e)

-- ---- what begins what

pub rest-of : (xs ys : List ℕ) → begins nat_eq xs ys ≡ true → (rest : List ℕ) × (ys ≡ xs ++ rest)
rest-of [] ys e = (ys, refl)
rest-of (x ∷ xs) [] e = absurd (true≢false (sym e))
rest-of (x ∷ xs) (y ∷ ys) e =
    let p = and_parts (eqb x y) (begins nat_eq xs ys) e in
    let same : x ≡ y = eqb-true x y p.0 in
    let r = rest-of xs ys p.1 in
    (r.0, ap (λ z. z ∷ ys) (sym same) ∙ ap (λ zs. x ∷ zs) r.1)

pub front-same : (xs ys zs : List ℕ) → begins nat_eq (xs ++ ys) (xs ++ zs) ≡ begins nat_eq ys zs
front-same [] ys zs = refl
front-same (x ∷ xs) ys zs = ap (λ b. b && begins nat_eq (xs ++ ys) (xs ++ zs)) (eq-eqb x x refl) ∙ front-same xs ys zs
