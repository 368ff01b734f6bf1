-- Rows that lie in the order of their numbers: found, changed, taken out and put in by their places.
use Rattle.std.proofs.Common.{◌≡◌, is_some, ℕ, ◌+◌, ◌<◌, ◌≤◌, Bool, true, false, cond, List, [], ◌∷◌, length, drop, Option, Some, None, Err, refl, sym, ap, ◌∙◌, arith, nat_cmp, get_or, subst, eqb-true, eq-eqb, ne_eqb, tests, suc, zero}
use Rattle.std.proofs.lemmas.List.{drop_more, get_or-map, length-map}
use Rattle.std.proofs.lemmas.Map.Keys.{IsDistinct-from_sorted, non_decreasing_from_sorted}
use Rattle.std.proofs.lemmas.Map.Lookups.{exact_unsigned}
use Rattle.std.proofs.lemmas.Cmp.{eq_by_cmp_equiv, nat_cmp_total}
use Rattle.std.proofs.lemmas.Map.{keys-set_value, lookup-remove_entry, lookup-set_value}
use Rattle.std.proofs.lemmas.Option.{get_or_from_slice_get, slice_get_within}
use Rattle.std.specs.BTreeMap.{is_at, insert_entry}
use Rattle.std.specs.Cmp.{ranks, nat_cmp_is}
use Rattle.std.specs.List.{AllByRecursion, slice_get, slice_set, insert, remove}
use Rattle.std.specs.List.Sorted.{IsStrictlySortedBy, IsBinarySearchResult}
use Rattle.std.specs.Map.{keys_of}
use Rattle.std.specs.Option.{MatchOption}
use Rattle.std.specs.Ordering.{eq_by_cmp, is_eq, match_ordering, ordering_index}
use Rattle.std.specs.declared.cmp.Ordering.{Ordering}
use Rattle.std.specs.declared.cmp.Ordering.TheVariants.{Less, Equal, Greater}
use Rattle.zre_journal.proofs.NumberedLists.{eqb-comm}
use Rattle.zre_tables.specs.Rows.{row_at, with_row, without_row}
use Rattle.zre_tables.proofs.EntriesOfMaps.{at-eqb}

-- what the order of two numbers is
less : (a b : ℕ) → nat_cmp a b ≡ Less → a < b
less a b e = grind (arith, ranks a b, e)

above : (a b : ℕ) → nat_cmp a b ≡ Greater → b < a
above a b e = grind (arith, ranks a b, e)

higher : (x a b : ℕ) → a ≤ b → ordering_index (nat_cmp a x) ≤ ordering_index (nat_cmp b x)
higher x a b le = grind (arith, tests)

pub rising_none : IsStrictlySortedBy nat_cmp []
unfolding IsStrictlySortedBy
rising_none = tt

itself : (n : ℕ) → is_at (nat_cmp n) n ≡ true
itself n = at-eqb n n ∙ eq-eqb n n refl

module _ {V : Type 0} where
  -- what holds of all numbers holds of that at a place
  there : (P : ℕ → Type 0) (es : List (ℕ × V)) (i n : ℕ) (x : V) → AllByRecursion P (keys_of es) → slice_get es i ≡ Some (n, x) → P n
  there P [] i n x all at = absurd cc
  there P (e ∷ es) zero n x all at = let same : e ≡ (n, x) = cc in subst P (ap (λ (p : ℕ × V). p.0) same) all.0
  there P (e ∷ es) (suc i) n x all at = there P es i n x all.1 at

  -- the number of the first row isn't that of a later one
  later : (e : ℕ × V) (es : List (ℕ × V)) (i n : ℕ) (x : V) → AllByRecursion (λ k. nat_cmp e.0 k ≡ Less) (keys_of es) → slice_get es i ≡ Some (n, x) → is_at (nat_cmp n) e.0 ≡ false
  later e es i n x all at =
      let low : e.0 < n = less e.0 n (there (λ k. nat_cmp e.0 k ≡ Less) es i n x all at) in
      at-eqb n e.0 ∙ ne_eqb n e.0 (λ q. omega (arith, low))

  pub found : (es : List (ℕ × V)) (i n : ℕ) (x : V) → IsStrictlySortedBy nat_cmp (keys_of es) → slice_get es i ≡ Some (n, x) → row_at n es ≡ Some x
  unfolding IsStrictlySortedBy
  found [] i n x up at = absurd cc
  found (e ∷ es) zero n x up at = let same : e ≡ (n, x) = cc in subst (λ (p : ℕ × V). row_at n (p ∷ es) ≡ Some x) (sym same) (rw (itself n) refl)
  found (e ∷ es) (suc i) n x up at = rw (later e es i n x up.0 at) (found es i n x up.1 at)

  pub put : (es : List (ℕ × V)) (i n : ℕ) (x w : V) → IsStrictlySortedBy nat_cmp (keys_of es) → slice_get es i ≡ Some (n, x) → slice_set es i (n, w) ≡ with_row n w es
  unfolding IsStrictlySortedBy
  put [] i n x w up at = absurd cc
  put (e ∷ es) zero n x w up at = let same : e ≡ (n, x) = cc in subst (λ (p : ℕ × V). (n, w) ∷ es ≡ with_row n w (p ∷ es)) (sym same) (rw (itself n) refl)
  put (e ∷ es) (suc i) n x w up at = rw (later e es i n x up.0 at) (ap (λ fs. e ∷ fs) (put es i n x w up.1 at))

  pub gone : (es : List (ℕ × V)) (i n : ℕ) (x : V) → IsStrictlySortedBy nat_cmp (keys_of es) → slice_get es i ≡ Some (n, x) → remove es i ≡ without_row n es
  unfolding IsStrictlySortedBy
  gone [] i n x up at = absurd cc
  gone (e ∷ es) zero n x up at = let same : e ≡ (n, x) = cc in subst (λ (p : ℕ × V). es ≡ without_row n (p ∷ es)) (sym same) (rw (itself n) refl)
  gone (e ∷ es) (suc i) n x up at = rw (later e es i n x up.0 at) (ap (λ fs. e ∷ fs) (gone es i n x up.1 at))

  -- rows of lower numbers lie before a place, and those of higher ones from it on
  pub record Parts (es : List (ℕ × V)) (n i : ℕ) : Type 0 where
    pub low : (k : ℕ) (d : ℕ × V) → k < i → nat_cmp (get_or es k d).0 n ≡ Less
    pub high : (k : ℕ) (d : ℕ × V) → i ≤ k → k < length es → nat_cmp (get_or es k d).0 n ≡ Greater

  rest : (e : ℕ × V) (es : List (ℕ × V)) (n i : ℕ) → Parts (e ∷ es) n (suc i) → Parts es n i
  rest e es n i p = record { low = λ k d l. p.low (suc k) d (omega (arith, l)); high = λ k d l h. p.high (suc k) d (omega (arith, l)) (omega (arith, h)) }

  idle_high : (e : ℕ × V) (es : List (ℕ × V)) (n : ℕ) → Parts (e ∷ es) n zero → Parts es n zero
  idle_high e es n p = record { low = λ k d l. absurd (omega (arith, l)); high = λ k d l h. p.high (suc k) d (omega arith) (omega (arith, h)) }

  pub absent : (es : List (ℕ × V)) (n i : ℕ) → Parts es n i → row_at n es ≡ None
  absent [] n i p = refl
  absent (e ∷ es) n zero p =
      let far : n < e.0 = above e.0 n (p.high 0 e (omega arith) (omega arith)) in
      rw (at-eqb n e.0 ∙ ne_eqb n e.0 (λ q. omega (arith, far))) (absent es n zero (idle_high e es n p))
  absent (e ∷ es) n (suc i) p =
      let far : e.0 < n = less e.0 n (p.low 0 e (omega arith)) in
      rw (at-eqb n e.0 ∙ ne_eqb n e.0 (λ q. omega (arith, far))) (absent es n i (rest e es n i p))

  pub come : (es : List (ℕ × V)) (n i : ℕ) (v : V) → i ≤ length es → Parts es n i → insert es i (n, v) ≡ insert_entry nat_cmp es n v
  come [] n zero v l p = refl
  come [] n (suc i) v l p = absurd (omega (arith, l))
  come (e ∷ es) n zero v l p =
      let far : nat_cmp n e.0 ≡ Less = sym (nat_cmp_is n e.0 Less (above e.0 n (p.high 0 e (omega arith) (omega arith)))) in
      rw far refl
  come (e ∷ es) n (suc i) v l p =
      let far : nat_cmp n e.0 ≡ Greater = sym (nat_cmp_is n e.0 Greater (less e.0 n (p.low 0 e (omega arith)))) in
      rw far (ap (λ fs. e ∷ fs) (come es n i v (omega (arith, l)) (rest e es n i p)))

  -- what a search answers
  pub search_ok : (es : List (ℕ × V)) (n i : ℕ) → i < length es → ((d : ℕ × V) → nat_cmp (get_or es i d).0 n ≡ Equal) → (x : V) × (slice_get es i ≡ Some (n, x))
  search_ok [] n i l h = absurd (omega (arith, l))
  search_ok (e ∷ es) n zero l h = (e.1, ap (λ k. Some (k, e.1)) (exact_unsigned e.0 n (h e)))
  search_ok (e ∷ es) n (suc i) l h = search_ok es n i (omega (arith, l)) h

  pub search_err : (es : List (ℕ × V)) (n i : ℕ) → IsStrictlySortedBy nat_cmp (keys_of es) → IsBinarySearchResult (λ (e : ℕ × V). nat_cmp e.0 n) es (Err i) → Parts es n i
  search_err es n i up h =
      let parted = h (λ a b d le l.
      let first : get_or (keys_of es) a d.0 ≡ (get_or es a d).0 = get_or-map (λ (e : ℕ × V). e.0) es a d d.0 (omega (arith, le, l)) in
      let second : get_or (keys_of es) b d.0 ≡ (get_or es b d).0 = get_or-map (λ (e : ℕ × V). e.0) es b d d.0 l in
      let long : length (keys_of es) ≡ length es = length-map es (λ (e : ℕ × V). e.0) in
      higher n (get_or es a d).0 (get_or es b d).0 (omega (arith, first, second, non_decreasing_from_sorted (keys_of es) up a b d.0 le (omega (arith, l, long))))) in
      record { low = λ k d l. parted.0 k d (omega arith) l; high = λ k d l u. parted.1 k d l u }

  -- what was read at a place is the row of its number
  pub hit : (es : List (ℕ × V)) (i n : ℕ) (row : ℕ × V) → i < length es → row ≡ get_or es i row → row.0 ≡ n → (x : V) × (slice_get es i ≡ Some (n, x))
  hit [] i n row l at same = absurd (omega (arith, l))
  hit (e ∷ es) zero n row l at same = (row.1, ap (λ (p : ℕ × V). Some p) (sym at ∙ ap (λ k. (k, row.1)) same))
  hit (e ∷ es) (suc i) n row l at same = hit es i n row (omega (arith, l)) at same

  -- a row that lies under a number at a place
  pub record Lies (es : List (ℕ × V)) (n i : ℕ) (row : ℕ × V) : Type 0 where
    pub there_is : row_at n es ≡ Some row.1
    pub below : i < length es
    pub set : (w : V) → slice_set es i (row.0, w) ≡ with_row n w es
    pub taken : remove es i ≡ without_row n es

  pub lies : (es : List (ℕ × V)) (n i : ℕ) (row : ℕ × V) → IsStrictlySortedBy nat_cmp (keys_of es) → (x : V) × (slice_get es i ≡ Some (n, x)) → row ≡ get_or es i row → Lies es n i row
  lies es n i row up x at =
      let it : row ≡ (n, x.0) = at ∙ get_or_from_slice_get es i (n, x.0) row x.1 in
      record {
        there_is = found es i n x.0 up x.1 ∙ ap (λ (p : ℕ × V). Some p.1) (sym it);
        below = slice_get_within es i (n, x.0) x.1;
        set = λ w. ap (λ (p : ℕ × V). slice_set es i (p.0, w)) it ∙ put es i n x.0 w up x.1;
        taken = gone es i n x.0 up x.1;
      }

  -- ---- the numbers rise after a change

  low_left : (m n : ℕ) (es : List (ℕ × V)) → AllByRecursion (λ k. nat_cmp m k ≡ Less) (keys_of es) → AllByRecursion (λ k. nat_cmp m k ≡ Less) (keys_of (without_row n es))
  low_left m n [] a = tt
  low_left m n (e ∷ es) a = by (is_at (nat_cmp n) e.0) (low_left m n es a.1)
    where
      by : (b : Bool) → AllByRecursion (λ k. nat_cmp m k ≡ Less) (keys_of (without_row n es)) → AllByRecursion (λ k. nat_cmp m k ≡ Less) (keys_of (cond b es (e ∷ without_row n es)))
      by true r = a.1
      by false r = (a.0, r)

  pub rising_without : (n : ℕ) (es : List (ℕ × V)) → IsStrictlySortedBy nat_cmp (keys_of es) → IsStrictlySortedBy nat_cmp (keys_of (without_row n es))
  unfolding IsStrictlySortedBy
  rising_without n [] up = up
  rising_without n (e ∷ es) up = by (is_at (nat_cmp n) e.0) (rising_without n es up.1)
    where
      by : (b : Bool) → IsStrictlySortedBy nat_cmp (keys_of (without_row n es)) → IsStrictlySortedBy nat_cmp (keys_of (cond b es (e ∷ without_row n es)))
      by true r = up.1
      by false r = (low_left e.0 n es up.0, r)

  low_with : (m n : ℕ) (v : V) (es : List (ℕ × V)) → nat_cmp m n ≡ Less → AllByRecursion (λ k. nat_cmp m k ≡ Less) (keys_of es) → AllByRecursion (λ k. nat_cmp m k ≡ Less) (keys_of (insert_entry nat_cmp es n v))
  low_with m n v [] l a = (l, tt)
  low_with m n v (e ∷ es) l a = by (nat_cmp n e.0) (low_with m n v es l a.1)
    where
      by : (o : Ordering) → AllByRecursion (λ k. nat_cmp m k ≡ Less) (keys_of (insert_entry nat_cmp es n v)) → AllByRecursion (λ k. nat_cmp m k ≡ Less) (keys_of (match_ordering o ((n, v) ∷ e ∷ es) ((e.0, v) ∷ es) (e ∷ insert_entry nat_cmp es n v)))
      by Less r = (l, a)
      by Equal r = a
      by Greater r = (a.0, r)

  all_above : (m n : ℕ) (es : List (ℕ × V)) → n < m → AllByRecursion (λ k. nat_cmp m k ≡ Less) (keys_of es) → AllByRecursion (λ k. nat_cmp n k ≡ Less) (keys_of es)
  all_above m n [] l a = tt
  all_above m n (e ∷ es) l a = (sym (nat_cmp_is n e.0 Less (omega (arith, l, less m e.0 a.0))), all_above m n es l a.1)

  pub rising_with : (n : ℕ) (v : V) (es : List (ℕ × V)) → IsStrictlySortedBy nat_cmp (keys_of es) → IsStrictlySortedBy nat_cmp (keys_of (insert_entry nat_cmp es n v))
  unfolding IsStrictlySortedBy
  rising_with n v [] up = (tt, tt)
  rising_with n v (e ∷ es) up = by (nat_cmp n e.0) refl (rising_with n v es up.1)
    where
      by : (o : Ordering) → nat_cmp n e.0 ≡ o → IsStrictlySortedBy nat_cmp (keys_of (insert_entry nat_cmp es n v))
          → IsStrictlySortedBy nat_cmp (keys_of (match_ordering o ((n, v) ∷ e ∷ es) ((e.0, v) ∷ es) (e ∷ insert_entry nat_cmp es n v)))
      by Less q r = ((q, all_above e.0 n es (less n e.0 q) up.0), up)
      by Equal q r = up
      by Greater q r = (low_with e.0 n v es (sym (nat_cmp_is e.0 n Less (above n e.0 q))) up.0, r)

  pub rising_set : (n : ℕ) (w : V) (es : List (ℕ × V)) → IsStrictlySortedBy nat_cmp (keys_of es) → IsStrictlySortedBy nat_cmp (keys_of (with_row n w es))
  rising_set n w es up = subst (IsStrictlySortedBy nat_cmp) (sym (keys-set_value (is_at (nat_cmp n)) es w)) up

  -- a row under a number that has one takes that one's place
  no_row : (n : ℕ) (es : List (ℕ × V)) → AllByRecursion (λ k. nat_cmp n k ≡ Less) (keys_of es) → row_at n es ≡ None
  no_row n [] a = refl
  no_row n (e ∷ es) a = rw a.0 (no_row n es a.1)

  pub replaced : (n : ℕ) (x w : V) (es : List (ℕ × V)) → IsStrictlySortedBy nat_cmp (keys_of es) → row_at n es ≡ Some x → with_row n w es ≡ insert_entry nat_cmp es n w
  unfolding IsStrictlySortedBy
  replaced n x w [] up at = absurd cc
  replaced n x w (e ∷ es) up at = by (nat_cmp n e.0) refl (replaced n x w es up.1) at
    where
      by : (o : Ordering) → nat_cmp n e.0 ≡ o → (row_at n es ≡ Some x → with_row n w es ≡ insert_entry nat_cmp es n w) → cond (is_eq o) (Some e.1) (row_at n es) ≡ Some x
          → cond (is_eq o) ((e.0, w) ∷ es) (e ∷ with_row n w es) ≡ match_ordering o ((n, w) ∷ e ∷ es) ((e.0, w) ∷ es) (e ∷ insert_entry nat_cmp es n w)
      by Less q r z = let no : None ≡ Some x = sym (no_row n es (all_above e.0 n es (less n e.0 q) up.0)) ∙ z in absurd cc
      by Equal q r z = refl
      by Greater q r z = ap (λ fs. e ∷ fs) (r z)

  -- where a number has no row, none goes out
  pub without_none : (n : ℕ) (es : List (ℕ × V)) → row_at n es ≡ None → without_row n es ≡ es
  without_none n [] none = refl
  without_none n (e ∷ es) none = by (is_at (nat_cmp n) e.0) (without_none n es) none
    where
      by : (b : Bool) → (row_at n es ≡ None → without_row n es ≡ es) → cond b (Some e.1) (row_at n es) ≡ None → cond b es (e ∷ without_row n es) ≡ e ∷ es
      by true r z = absurd cc
      by false r z = ap (λ fs. e ∷ fs) (r z)

-- the test of a number is that of each number equal to it
one_test : (n x y : ℕ) → is_at (nat_cmp n) x ≡ true → is_at (nat_cmp n) y ≡ eq_by_cmp nat_cmp x y
one_test n x y e = ap (λ m. is_at (nat_cmp m) y) (eqb-true n x (sym (at-eqb n x) ∙ e))

turned : (n q : ℕ) → is_at (nat_cmp q) n ≡ is_at (nat_cmp n) q
turned n q = at-eqb q n ∙ eqb-comm q n ∙ sym (at-eqb n q)

module _ {V : Type 0} where
  -- ---- the row of each number after a change

  pub at_set : (n q : ℕ) (k w : V) (es : List (ℕ × V)) → row_at n es ≡ Some k → row_at q (with_row n w es) ≡ cond (is_at (nat_cmp n) q) (Some w) (row_at q es)
  at_set n q k w es is = lookup-set_value (eq_by_cmp_equiv nat_cmp_total) (is_at (nat_cmp n)) (one_test n) q w es (ap is_some is)

  pub at_gone : (n q : ℕ) (es : List (ℕ × V)) → IsStrictlySortedBy nat_cmp (keys_of es) → row_at q (without_row n es) ≡ cond (is_at (nat_cmp n) q) None (row_at q es)
  at_gone n q es up = lookup-remove_entry (eq_by_cmp_equiv nat_cmp_total) (is_at (nat_cmp n)) (one_test n) q es (IsDistinct-from_sorted nat_cmp (keys_of es) up)

  pub at_come : (n q : ℕ) (v : V) (es : List (ℕ × V)) → row_at q (insert_entry nat_cmp es n v) ≡ cond (is_at (nat_cmp n) q) (Some v) (row_at q es)
  at_come n q v [] = rw (turned n q) refl
  at_come n q v (e ∷ es) = by (nat_cmp n e.0) refl (at_come n q v es)
    where
      same : e.0 ≡ n → (b : Bool) → is_at (nat_cmp n) q ≡ b → cond (is_at (nat_cmp q) e.0) (Some v) (row_at q es) ≡ cond b (Some v) (cond (is_at (nat_cmp q) e.0) (Some e.1) (row_at q es))
      same m true p = let w : is_at (nat_cmp q) e.0 ≡ true = ap (λ k. is_at (nat_cmp q) k) m ∙ turned n q ∙ p in rw w refl
      same m false p = let w : is_at (nat_cmp q) e.0 ≡ false = ap (λ k. is_at (nat_cmp q) k) m ∙ turned n q ∙ p in rw w refl

      other : e.0 < n → (b : Bool) → is_at (nat_cmp q) e.0 ≡ b → row_at q (insert_entry nat_cmp es n v) ≡ cond (is_at (nat_cmp n) q) (Some v) (row_at q es)
          → cond b (Some e.1) (row_at q (insert_entry nat_cmp es n v)) ≡ cond (is_at (nat_cmp n) q) (Some v) (cond b (Some e.1) (row_at q es))
      other l true p r =
          let m : q ≡ e.0 = eqb-true q e.0 (sym (at-eqb q e.0) ∙ p) in
          let w : is_at (nat_cmp n) q ≡ false = at-eqb n q ∙ ne_eqb n q (λ z. omega (arith, l, m)) in rw w refl
      other l false p r = r

      by : (o : Ordering) → nat_cmp n e.0 ≡ o → row_at q (insert_entry nat_cmp es n v) ≡ cond (is_at (nat_cmp n) q) (Some v) (row_at q es)
          → row_at q (match_ordering o ((n, v) ∷ e ∷ es) ((e.0, v) ∷ es) (e ∷ insert_entry nat_cmp es n v)) ≡ cond (is_at (nat_cmp n) q) (Some v) (row_at q (e ∷ es))
      by Less p r = rw (turned n q) refl
      by Equal p r = same (sym (exact_unsigned n e.0 p)) (is_at (nat_cmp n) q) refl
      by Greater p r = other (above n e.0 p) (is_at (nat_cmp q) e.0) refl r

  -- whether a number has a row, by its place
  pub placed : (o : Option ℕ) (n : ℕ) (es : List (ℕ × V)) → IsStrictlySortedBy nat_cmp (keys_of es) → MatchOption o (row_at n es ≡ None) (λ i. (x : V) × (slice_get es i ≡ Some (n, x))) → is_some o ≡ is_some (row_at n es)
  placed None n es up m = sym (ap is_some m)
  placed (Some i) n es up m = sym (ap is_some (found es i n m.0 up m.1))

-- the next of a list, and those after it
pub next_of : {A : Type 0} (items xs : List A) (i : ℕ) (x : A) → items ≡ xs → i < length items → x ≡ get_or items i x → drop i xs ≡ x ∷ drop (i + 1) xs
next_of items xs i x same low is = ap (drop i) (sym same) ∙ drop_more items i x low ∙ ap (λ y. y ∷ drop (i + 1) items) (sym is) ∙ ap (λ ys. x ∷ drop (i + 1) ys) same
