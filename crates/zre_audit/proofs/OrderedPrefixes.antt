-- Among lists of octets in order, those that begin with others stand together, between the ones before them and the ones
-- after.
use Rattle.std.proofs.Common.{◌≡◌, ℕ, zero, suc, ◌+◌, ◌-◌, ◌<◌, ◌≤◌, Bool, true, false, cond, ◌&&◌, ◌||◌, eqb, ltb, nat_eq, List, [], ◌∷◌, length, take, get_or, map, refl, sym, ap, ◌∙◌, arith, true≢false, eqb-true, ltb-true, ltb-false, eq-eqb, count_by}
use Rattle.std.proofs.lemmas.Bool.{and_parts}
use Rattle.std.proofs.lemmas.Cmp.{nat_list_cmp_total}
use Rattle.std.proofs.lemmas.List.Sorted.{ranks_by, sorted_far, sum_by-IsPermutation}
use Rattle.std.proofs.lemmas.List.Sums.{sum_by-cons}
use Rattle.std.specs.Cmp.Lexicographic.{slice_cmp, pointwise}
use Rattle.std.specs.List.Sorted.{IsPermutation, IsPartitionedBy, IsPartitionPoint, IsSortedBy}
use Rattle.std.specs.Ordering.{nat_cmp, is_lt, ordering_then, ordering_reverse}
use Rattle.std.specs.declared.cmp.Ordering.{Ordering}
use Rattle.std.specs.declared.cmp.Ordering.TheVariants.{Less, Equal, Greater}
use Rattle.zre_audit.specs.Prefixes.{begins, begun}
use Rattle.zre_audit.specs.Sorted.{AreRising}

-- ---- the tests

pub begins-is : (h xs : List ℕ) → begins nat_eq h xs ≡ pointwise nat_eq h (take (length h) xs)
begins-is [] xs = refl
begins-is (x ∷ h) [] = refl
begins-is (x ∷ h) (y ∷ xs) = ap (λ b. eqb x y && b) (begins-is h xs)

abbrev cmp : List ℕ → List ℕ → Ordering
cmp xs ys = slice_cmp nat_cmp xs ys

abbrev pub below : List ℕ → List ℕ → Bool
below h xs = is_lt (cmp xs h)

abbrev pub up_to : List ℕ → List ℕ → Bool
up_to h xs = below h xs || begins nat_eq h xs

cmp_itself : (n : ℕ) → nat_cmp n n ≡ Equal
cmp_itself n = by (ltb n n) refl (eqb n n) (eq-eqb n n refl)
  where
    by : (b : Bool) → ltb n n ≡ b → (d : Bool) → d ≡ true → cond b Less (cond d Equal Greater) ≡ Equal
    by true e d q = let lt = ltb-true n n e in absurd (omega (arith, lt))
    by false e d q = ap (λ c. cond c Equal Greater) q

-- what begins with h isn't below it
not_below : (h xs : List ℕ) → begins nat_eq h xs ≡ true → below h xs ≡ false
not_below [] [] e = refl
not_below [] (x ∷ xs) e = refl
not_below (y ∷ h) [] e = absurd (true≢false (sym e))
not_below (y ∷ h) (x ∷ xs) e =
    let p = and_parts (eqb y x) (begins nat_eq h xs) e in
    let same : y ≡ x = eqb-true y x p.0 in
    let tied : nat_cmp x y ≡ Equal = ap (λ z. nat_cmp x z) same ∙ cmp_itself x in
    ap (λ o. is_lt (ordering_then o (cmp xs h))) tied ∙ not_below h xs p.1

-- the first parts of lists that aren't in the wrong order
not_less : (m n : ℕ) (o : Ordering) → is_lt (ordering_then (nat_cmp m n) o) ≡ false → n ≤ m
not_less m n o e = by (ltb m n) refl e
  where
    by : (b : Bool) → ltb m n ≡ b → is_lt (ordering_then (cond b Less (cond (eqb m n) Equal Greater)) o) ≡ false → n ≤ m
    by true q z = absurd (true≢false z)
    by false q z = ltb-false m n q

tied_then : (m n : ℕ) (o : Ordering) → m ≡ n → is_lt (ordering_then (nat_cmp m n) o) ≡ false → is_lt o ≡ false
tied_then m n o same e = let t : nat_cmp m n ≡ Equal = ap (λ z. nat_cmp m z) (sym same) ∙ cmp_itself m in sym (ap (λ p. is_lt (ordering_then p o)) t) ∙ e

-- what lies between h and what begins with h begins with h
between : (h xs ys : List ℕ) → below h xs ≡ false → is_lt (cmp ys xs) ≡ false → begins nat_eq h ys ≡ true → begins nat_eq h xs ≡ true
between [] xs ys a b e = refl
between (z ∷ h) [] ys a b e = absurd (true≢false a)
between (z ∷ h) (x ∷ xs) [] a b e = absurd (true≢false (sym e))
between (z ∷ h) (x ∷ xs) (y ∷ ys) a b e =
    let p = and_parts (eqb z y) (begins nat_eq h ys) e in
    let same : z ≡ y = eqb-true z y p.0 in
    let over = not_less x z (cmp xs h) a in
    let under = not_less y x (cmp ys xs) b in
    let first : x ≡ z = omega (arith, over, under, same) in
    let second : y ≡ x = omega (arith, over, under, same) in
    let rest = between h xs ys (tied_then x z (cmp xs h) first a) (tied_then y x (cmp ys xs) second b) p.1 in
    ap (λ w. w && begins nat_eq h xs) (eq-eqb z x (sym first)) ∙ rest

-- ---- the order

below_before : (h xs ys : List ℕ) → is_lt (cmp ys xs) ≡ false → below h ys ≡ true → below h xs ≡ true
below_before h xs ys n e = by (cmp xs ys) refl
  where
    less : (o : Ordering) → is_lt o ≡ true → o ≡ Less
    less Less e = refl
    less Equal e = absurd (true≢false (sym e))
    less Greater e = absurd (true≢false (sym e))

    by : (o : Ordering) → cmp xs ys ≡ o → below h xs ≡ true
    by Less q = ap is_lt (nat_list_cmp_total.trans xs ys h q (less (cmp ys h) e))
    by Equal q = ap is_lt (nat_list_cmp_total.congr xs ys h q) ∙ e
    by Greater q = absurd (true≢false (sym (ap is_lt (nat_list_cmp_total.antisymm ys xs ∙ ap ordering_reverse q)) ∙ n))

module _ (lists : List (List ℕ)) (up : AreRising lists) (h : List ℕ) where
  apart : (i j : ℕ) (d : List ℕ) → i ≤ j → j < length lists → is_lt (cmp (get_or lists j d) (get_or lists i d)) ≡ false
  apart i j d le lt = sorted_far (λ x y. is_lt (cmp x y)) (ranks_by nat_list_cmp_total (λ x. x)) lists up i j d le lt

  pub below_parts : IsPartitionedBy (below h) lists
  below_parts i j d le lt e = below_before h (get_or lists i d) (get_or lists j d) (apart i j d le lt) e

  pub up_to_parts : IsPartitionedBy (up_to h) lists
  up_to_parts i j d le lt e = by (below h (get_or lists i d)) refl (below h (get_or lists j d)) refl e
    where
      by : (b : Bool) → below h (get_or lists i d) ≡ b → (c : Bool) → below h (get_or lists j d) ≡ c → (c || begins nat_eq h (get_or lists j d)) ≡ true → (b || begins nat_eq h (get_or lists i d)) ≡ true
      by true p c q z = refl
      by false p true q z = absurd (true≢false (sym (below_before h (get_or lists i d) (get_or lists j d) (apart i j d le lt) q) ∙ p))
      by false p false q z = between h (get_or lists i d) (get_or lists j d) p (apart i j d le lt) z

-- ---- counts

abbrev one : {X : Type 0} → (X → Bool) → X → ℕ
one p x = cond (p x) 1 0

none : {X : Type 0} (p : X → Bool) (xs : List X) → ((k : ℕ) (d : X) → k < length xs → p (get_or xs k d) ≡ false) → count_by p xs ≡ 0
none p [] f = refl
none p (x ∷ xs) f =
    let first : one p x ≡ 0 = ap (λ b. cond b 1 0) (f 0 x (omega arith)) in
    let rest = none p xs (λ k d lt. f (suc k) d (omega (arith, lt))) in
    let all = sum_by-cons (one p) x xs in
    omega (arith, first, rest, all)

at_point : {X : Type 0} (p : X → Bool) (xs : List X) (i : ℕ) → i ≤ length xs → ((k : ℕ) (d : X) → k < i → p (get_or xs k d) ≡ true) → ((k : ℕ) (d : X) → i ≤ k → k < length xs → p (get_or xs k d) ≡ false) → count_by p xs ≡ i
at_point p xs zero le pass fail = none p xs (λ k d lt. fail k d (omega arith) lt)
at_point p [] (suc i) le pass fail = absurd (omega (arith, le))
at_point p (x ∷ xs) (suc i) le pass fail =
    let first : one p x ≡ 1 = ap (λ b. cond b 1 0) (pass 0 x (omega arith)) in
    let rest = at_point p xs i (omega (arith, le)) (λ k d lt. pass (suc k) d (omega (arith, lt))) (λ k d a lt. fail (suc k) d (omega (arith, a)) (omega (arith, lt))) in
    let all = sum_by-cons (one p) x xs in
    omega (arith, first, rest, all)

-- the lists below h and those that begin with it
both_counts : (h : List ℕ) (lists : List (List ℕ)) → count_by (up_to h) lists ≡ count_by (below h) lists + begun nat_eq h lists
both_counts h [] = refl
both_counts h (xs ∷ lists) =
    let rest = both_counts h lists in
    let a = sum_by-cons (one (up_to h)) xs lists in
    let b = sum_by-cons (one (below h)) xs lists in
    let c = sum_by-cons (one (begins nat_eq h)) xs lists in
    let d : one (up_to h) xs ≡ one (below h) xs + one (begins nat_eq h) xs = by (begins nat_eq h xs) refl (below h xs) refl in
    omega (arith, rest, a, b, c, d)
  where
    by : (s : Bool) → begins nat_eq h xs ≡ s → (t : Bool) → below h xs ≡ t → cond (t || s) 1 0 ≡ cond t 1 0 + cond s 1 0
    by true p true q = absurd (true≢false (sym q ∙ not_below h xs p))
    by true p false q = refl
    by false p true q = refl
    by false p false q = refl

pub same-begun : (h : List ℕ) (xss yss : List (List ℕ)) → IsPermutation xss yss → begun nat_eq h yss ≡ begun nat_eq h xss
same-begun h xss yss p = sum_by-IsPermutation (one (begins nat_eq h)) xss yss p

-- ---- the same of what leads to lists

module _ {X : Type 0} (f : X → List ℕ) where
  get-map : (xs : List X) (k : ℕ) (d : X) → get_or (map f xs) k (f d) ≡ f (get_or xs k d)
  get-map [] k d = refl
  get-map (x ∷ xs) zero d = refl
  get-map (x ∷ xs) (suc k) d = get-map xs k d

  length-map : (xs : List X) → length (map f xs) ≡ length xs
  length-map [] = refl
  length-map (x ∷ xs) = let r = length-map xs in omega (arith, r)

  count-map : (p : List ℕ → Bool) (xs : List X) → count_by (λ x. p (f x)) xs ≡ count_by p (map f xs)
  count-map p [] = refl
  count-map p (x ∷ xs) =
      let a = sum_by-cons (one (λ y. p (f y))) x xs in
      let b = sum_by-cons (one p) (f x) (map f xs) in
      let r = count-map p xs in
      omega (arith, a, b, r)

  pub parts-map : (p : List ℕ → Bool) (xs : List X) → IsPartitionedBy p (map f xs) → IsPartitionedBy (λ x. p (f x)) xs
  parts-map p xs parts i j d le lt e =
      let long = length-map xs in
      sym (ap p (get-map xs i d)) ∙ parts i j (f d) le (omega (arith, lt, long)) (ap p (get-map xs j d) ∙ e)

  pub counted-map : (h : List ℕ) (xs : List X) (low high : ℕ) → low ≤ length xs → high ≤ length xs
      → IsPartitionPoint (λ x. below h (f x) ≡ true) (λ x. below h (f x) ≡ false) xs low → IsPartitionPoint (λ x. up_to h (f x) ≡ true) (λ x. up_to h (f x) ≡ false) xs high → high - low ≡ begun nat_eq h (map f xs)
  counted-map h xs low high a b p q =
      let m = at_point (λ x. below h (f x)) xs low a (λ k d lt. p.0 k d (omega arith) lt) (λ k d le lt. p.1 k d le lt) in
      let n = at_point (λ x. up_to h (f x)) xs high b (λ k d lt. q.0 k d (omega arith) lt) (λ k d le lt. q.1 k d le lt) in
      let k = count-map (below h) xs in
      let l = count-map (up_to h) xs in
      let s = both_counts h (map f xs) in
      omega (arith, m, n, k, l, s)

  -- what is sorted by what it leads to leads to what is sorted
  pub rises-map : (xs : List X) → IsSortedBy (λ x y. is_lt (cmp (f x) (f y))) xs → AreRising (map f xs)
  rises-map [] up k d a lt = absurd (omega (arith, lt))
  rises-map (x ∷ xs) up k d a lt =
      let long = length-map (x ∷ xs) in
      let within : k + 1 < length (x ∷ xs) = omega (arith, lt, long) in
      (λ i. is_lt (cmp (at (x ∷ xs) x (k + 1) d within i) (at (x ∷ xs) x k d (omega (arith, within)) i))) ∙ up k x a within
    where
      at : (ys : List X) (y : X) (k : ℕ) (d : List ℕ) → k < length ys → get_or (map f ys) k d ≡ f (get_or ys k y)
      at [] y k d lt = absurd (omega (arith, lt))
      at (z ∷ ys) y zero d lt = refl
      at (z ∷ ys) y (suc k) d lt = at ys y k d (omega (arith, lt))
