-- Lists that are counted from 1: what stands in longer ones, and in ones that were written; and sums over them.
use Rattle.std.proofs.Common.{◌≡◌, ◌⊎◌, ℕ, zero, suc, ◌+◌, ◌≤◌, ◌<◌, false, eqb, List, [], ◌∷◌, ◌++◌, length, map, Some, None, refl, sym, ap, ◌∙◌, subst, inl, inr, arith, eq-eqb, true≢false}
use Rattle.std.specs.Prelude.{slice_get, slice_set, get_or}
use Rattle.std.specs.List.{sum_by, AllByRecursion}
use Rattle.std.specs.Option.{option_map}
use Rattle.std.proofs.lemmas.List.Sums.{sum_by-cons}
use Rattle.zre_net.specs.Lists.{nth}
use Rattle.std.proofs.lemmas.Bool.{ne_eqb}

pub some_one : {A : Type 0} {a b : A} → Some a ≡ Some b → a ≡ b
some_one e = cc

-- ---- counted from 0

pub in_reach : {A : Type 0} (xs : List A) (i : ℕ) (x : A) → slice_get xs i ≡ Some x → i < length xs
in_reach [] i x e = absurd cc
in_reach (y ∷ xs) zero x e = omega arith
in_reach (y ∷ xs) (suc i) x e = let r = in_reach xs i x e in omega (arith, r)

pub got_same : {A : Type 0} (xs : List A) (i : ℕ) (v : A) → i < length xs → slice_get (slice_set xs i v) i ≡ Some v
got_same [] i v z = absurd (omega (arith, z))
got_same (x ∷ xs) zero v z = refl
got_same (x ∷ xs) (suc i) v z = got_same xs i v (omega (arith, z))

pub kept : {A : Type 0} (xs : List A) (i k : ℕ) (v : A) → (i ≡ k → ⊥) → slice_get (slice_set xs i v) k ≡ slice_get xs k
kept [] i k v n = refl
kept (x ∷ xs) zero zero v n = absurd (n refl)
kept (x ∷ xs) zero (suc k) v n = refl
kept (x ∷ xs) (suc i) zero v n = refl
kept (x ∷ xs) (suc i) (suc k) v n = kept xs i k v (λ e. n (ap suc e))

pub apart : (a b : ℕ) → eqb a b ≡ false → a ≡ b → ⊥
apart a b e q = true≢false (sym (eq-eqb a b q) ∙ e)

pub got_other : {A : Type 0} (xs : List A) (i k : ℕ) (v : A) → eqb i k ≡ false → slice_get (slice_set xs i v) k ≡ slice_get xs k
got_other xs i k v n = kept xs i k v (apart i k n)

pub set_length : {A : Type 0} (xs : List A) (i : ℕ) (v : A) → length (slice_set xs i v) ≡ length xs
set_length [] i v = refl
set_length (x ∷ xs) zero v = refl
set_length (x ∷ xs) (suc i) v = let r = set_length xs i v in omega (arith, r)

pub there : {A : Type 0} (xs : List A) (i : ℕ) (d : A) → i < length xs → slice_get xs i ≡ Some (get_or xs i d)
there [] i d z = absurd (omega (arith, z))
there (x ∷ xs) zero d z = refl
there (x ∷ xs) (suc i) d z = there xs i d (omega (arith, z))

-- at a place within a slice of them
pub at_place : {A : Type 0} (xs ys : List A) (i : ℕ) (v d : A) → ys ≡ xs → i < length ys → v ≡ get_or xs i d → slice_get xs i ≡ Some v
at_place xs ys i v d same lt is = there xs i d (let n = ap (λ zs. length zs) same in omega (arith, n, lt)) ∙ ap (λ x. Some x) (sym is)

pub set_back : {A : Type 0} (xs : List A) (i : ℕ) (v : A) → slice_get xs i ≡ Some v → slice_set xs i v ≡ xs
set_back [] i v e = refl
set_back (x ∷ xs) zero v e = ap (λ y. y ∷ xs) (sym (some_one e))
set_back (x ∷ xs) (suc i) v e = ap (λ ys. x ∷ ys) (set_back xs i v e)

-- ---- counted from 1

pub nth_reach : {A : Type 0} (k : ℕ) (xs : List A) (x : A) → nth k xs ≡ Some x → k ≤ length xs
nth_reach zero xs x e = omega arith
nth_reach (suc k) xs x e = let r = in_reach xs k x e in omega (arith, r)

-- a number after the last is that of none
pub past_all : {A : Type 0} (k : ℕ) (xs : List A) (x : A) → nth k xs ≡ Some x → (j : ℕ) → length xs < j → eqb j k ≡ false
past_all k xs x e j z = ne_eqb j k (λ s. let r = nth_reach k xs x e in omega (arith, s, r, z))

pub nth_first : {A : Type 0} (k : ℕ) (xs : List A) (x : A) → nth k xs ≡ Some x → 1 ≤ k
nth_first zero xs x e = absurd cc
nth_first (suc k) xs x e = omega arith

pub nth_at : {A : Type 0} (k i : ℕ) (xs : List A) → k ≡ i + 1 → nth k xs ≡ slice_get xs i
nth_at zero i xs e = absurd (omega (arith, e))
nth_at (suc k) i xs e = let same : k ≡ i = omega (arith, e) in ap (slice_get xs) same

pub nth_past : {A : Type 0} (k : ℕ) (xs : List A) → length xs < k → nth k xs ≡ None
nth_past zero xs z = refl
nth_past (suc k) [] z = refl
nth_past (suc zero) (x ∷ xs) z = absurd (omega (arith, z))
nth_past (suc (suc k)) (x ∷ xs) z = nth_past (suc k) xs (omega (arith, z))

pub nth_there : {A : Type 0} (k : ℕ) (xs : List A) → 1 ≤ k → k ≤ length xs → (x : A) × (nth k xs ≡ Some x)
nth_there zero xs a b = absurd (omega (arith, a))
nth_there (suc k) [] a b = absurd (omega (arith, b))
nth_there (suc zero) (x ∷ xs) a b = (x, refl)
nth_there (suc (suc k)) (x ∷ xs) a b = nth_there (suc k) xs (omega arith) (omega (arith, b))

pub nth_more : {A : Type 0} (k : ℕ) (xs ys : List A) (x : A) → nth k xs ≡ Some x → nth k (xs ++ ys) ≡ Some x
nth_more zero xs ys x e = e
nth_more (suc k) [] ys x e = absurd cc
nth_more (suc zero) (y ∷ xs) ys x e = e
nth_more (suc (suc k)) (y ∷ xs) ys x e = nth_more (suc k) xs ys x e

got_last : {A : Type 0} (xs : List A) (x : A) → slice_get (xs ++ x ∷ []) (length xs) ≡ Some x
got_last [] x = refl
got_last (y ∷ xs) x = got_last xs x

pub nth_last : {A : Type 0} (xs : List A) (x : A) → nth (length xs + 1) (xs ++ x ∷ []) ≡ Some x
nth_last xs x = nth_at (length xs + 1) (length xs) (xs ++ x ∷ []) refl ∙ got_last xs x

pub nth_cases : {A : Type 0} (k : ℕ) (xs : List A) (x y : A) → nth k (xs ++ x ∷ []) ≡ Some y → (nth k xs ≡ Some y) ⊎ ((k ≡ length xs + 1) × (y ≡ x))
nth_cases zero xs x y e = absurd cc
nth_cases (suc zero) [] x y e = inr (refl, sym (some_one e))
nth_cases (suc (suc k)) [] x y e = absurd cc
nth_cases (suc zero) (z ∷ xs) x y e = inl e
nth_cases (suc (suc k)) (z ∷ xs) x y e = by (nth_cases (suc k) xs x y e)
  where
    by : (nth (suc k) xs ≡ Some y) ⊎ ((suc k ≡ length xs + 1) × (y ≡ x)) → (nth (suc k) xs ≡ Some y) ⊎ ((suc (suc k) ≡ length (z ∷ xs) + 1) × (y ≡ x))
    by (inl a) = inl a
    by (inr b) = inr ((let c = b.0 in omega (arith, c)), b.1)

pub nth_same : {A : Type 0} (k i : ℕ) (xs : List A) (v : A) → k ≡ i + 1 → i < length xs → nth k (slice_set xs i v) ≡ Some v
nth_same k i xs v e z = nth_at k i (slice_set xs i v) e ∙ got_same xs i v z

pub nth_other : {A : Type 0} (k i j : ℕ) (xs : List A) (v : A) → k ≡ i + 1 → eqb j k ≡ false → nth j (slice_set xs i v) ≡ nth j xs
nth_other k i zero xs v e n = refl
nth_other k i (suc j) xs v e n = kept xs i j v (λ q. apart (suc j) k n (omega (arith, q, e)))

pub nth_map : {A B : Type 0} (f : A → B) (k : ℕ) (xs : List A) → nth k (map f xs) ≡ option_map f (nth k xs)
nth_map f zero xs = refl
nth_map f (suc k) [] = refl
nth_map f (suc zero) (x ∷ xs) = refl
nth_map f (suc (suc k)) (x ∷ xs) = nth_map f (suc k) xs

same_holds : {A : Type 0} (P : A → Type 0) (y x : A) → Some y ≡ Some x → P y → P x
same_holds P y x e p = subst P (some_one e) p

pub all_at : {A : Type 0} (P : A → Type 0) (k : ℕ) (xs : List A) (x : A) → AllByRecursion P xs → nth k xs ≡ Some x → P x
all_at P zero xs x a e = absurd cc
all_at P (suc k) [] x a e = absurd cc
all_at P (suc zero) (y ∷ xs) x a e = same_holds P y x e a.0
all_at P (suc (suc k)) (y ∷ xs) x a e = all_at P (suc k) xs x a.1 e

pub all_map : {A : Type 0} (P Q : A → Type 0) → ((x : A) → P x → Q x) → (xs : List A) → AllByRecursion P xs → AllByRecursion Q xs
all_map P Q f [] a = tt
all_map P Q f (x ∷ xs) a = (f x a.0, all_map P Q f xs a.1)

-- ---- sums

pub sum_set : {A : Type 0} (f : A → ℕ) (xs : List A) (i : ℕ) (x y : A) → slice_get xs i ≡ Some x → sum_by f (slice_set xs i y) + f x ≡ sum_by f xs + f y
sum_set f [] i x y e = absurd cc
sum_set f (z ∷ xs) zero x y e =
    let a = sum_by-cons f y xs in
    let b = sum_by-cons f z xs in
    let c = ap f (some_one e) in
    omega (arith, a, b, c)
sum_set f (z ∷ xs) (suc i) x y e =
    let a = sum_by-cons f z (slice_set xs i y) in
    let b = sum_by-cons f z xs in
    let r = sum_set f xs i x y e in
    omega (arith, a, b, r)

later_same : {A B : Type 0} (f : A → ℕ) (g : B → ℕ) (x : A) (y : B) (xs : List A) (ys : List B) → ((k : ℕ) (z : A) → nth k (x ∷ xs) ≡ Some z → (w : B) × (nth k (y ∷ ys) ≡ Some w) × (f z ≡ g w)) → (k : ℕ) (z : A) → nth k xs ≡ Some z → (w : B) × (nth k ys ≡ Some w) × (f z ≡ g w)
later_same f g x y xs ys a zero z q = absurd cc
later_same f g x y xs ys a (suc k) z q = a (suc (suc k)) z q

-- two lists whose members agree under each number
pub sum_same : {A B : Type 0} (f : A → ℕ) (g : B → ℕ) (xs : List A) (ys : List B) → length ys ≡ length xs → ((k : ℕ) (x : A) → nth k xs ≡ Some x → (y : B) × (nth k ys ≡ Some y) × (f x ≡ g y)) → sum_by f xs ≡ sum_by g ys
sum_same f g [] [] n a = refl
sum_same f g [] (y ∷ ys) n a = absurd (omega (arith, n))
sum_same f g (x ∷ xs) [] n a = absurd (omega (arith, n))
sum_same f g (x ∷ xs) (y ∷ ys) n a =
    let h = a 1 x refl in
    let e = h.2 ∙ ap g (sym (some_one h.1)) in
    let r = sum_same f g xs ys (omega (arith, n)) (later_same f g x y xs ys a) in
    let b = sum_by-cons f x xs in
    let c = sum_by-cons g y ys in
    omega (arith, e, r, b, c)
