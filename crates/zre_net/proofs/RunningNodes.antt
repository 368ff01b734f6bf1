-- The nodes that run are there, and no others.
use Rattle.std.proofs.Common.{◌≡◌, ◌⊎◌, ℕ, zero, suc, ◌+◌, Bool, true, false, cond, eqb, List, [], ◌∷◌, ◌++◌, length, Option, Some, None, refl, sym, ap, ◌∙◌, inl, inr, arith, eqb-true, eq-eqb, true≢false}
use Rattle.std.specs.Prelude.{slice_get, slice_set}
use Rattle.zre_net.specs.declared.running.rows.Started.{Started}
use Rattle.zre_net.specs.Lists.{nth}
use Rattle.zre_net.specs.Rows.{running_at, with_running, same_number, is_at, has_node, OnlyRunning}
use Rattle.zre_net.proofs.ListsCountedFromOne.{kept, in_reach, nth_more, nth_at, nth_same, nth_other, nth_cases}
use Rattle.zre_journal.proofs.NumberedLists.{eqb-comm}

-- a row is written whose node is there
set_at : (xs : List Started) (i j : ℕ) (v : Started) → has_node (Some v) ≡ true → has_node (slice_get xs j) ≡ true → has_node (slice_get (slice_set xs i v) j) ≡ true
set_at [] i j v l a = a
set_at (x ∷ xs) zero zero v l a = l
set_at (x ∷ xs) zero (suc j) v l a = a
set_at (x ∷ xs) (suc i) zero v l a = a
set_at (x ∷ xs) (suc i) (suc j) v l a = set_at xs i j v l a

pub live_set : (xs : List Started) (i j : ℕ) (v : Started) → has_node (Some v) ≡ true → has_node (nth j xs) ≡ true → has_node (nth j (slice_set xs i v)) ≡ true
live_set xs i zero v l a = a
live_set xs i (suc j) v l a = set_at xs i j v l a

-- another row is written
pub live_kept : (xs : List Started) (i j : ℕ) (v : Started) → (j ≡ i + 1 → ⊥) → has_node (nth j xs) ≡ true → has_node (nth j (slice_set xs i v)) ≡ true
live_kept xs i zero v f a = a
live_kept xs i (suc j) v f a = ap has_node (kept xs i j v (λ e. f (omega (arith, e)))) ∙ a

-- rows are appended
pub live_more : (j : ℕ) (xs ys : List Started) → has_node (nth j xs) ≡ true → has_node (nth j (xs ++ ys)) ≡ true
live_more j xs ys a = by (nth j xs) refl a
  where
    by : (o : Option Started) → nth j xs ≡ o → has_node o ≡ true → has_node (nth j (xs ++ ys)) ≡ true
    by None z q = absurd (true≢false (sym q))
    by (Some x) z q = ap has_node (nth_more j xs ys x z) ∙ q

-- ---- those that run no more

module _ (xs : List Started) (rows : List (Option ℕ)) (only : OnlyRunning xs rows) where
  -- one that runs takes an entry
  pub gone_stepped : (i : ℕ) (was now : Started) → slice_get xs i ≡ Some was → has_node (Some was) ≡ true → now.node ≡ was.node → OnlyRunning (slice_set xs i now) rows
  gone_stepped i was now before live same k z = by (eqb k (i + 1)) refl
    where
      by : (t : Bool) → eqb k (i + 1) ≡ t → has_node (nth k (slice_set xs i now)) ≡ false
      by true e =
          let under = eqb-true k (i + 1) e in
          let here = nth_at k i xs under ∙ before in
          let off = ap (λ o. is_at k o rows) here ∙ ap (λ n. same_number k (running_at n rows)) (sym same) ∙ sym (ap (λ o. is_at k o rows) (nth_same k i xs now under (in_reach xs i was before))) ∙ z in
          absurd (true≢false (sym live ∙ sym (ap has_node here) ∙ only k off))
      by false e = let far = nth_other (i + 1) i k xs now refl e in ap has_node far ∙ only k (ap (λ o. is_at k o rows) (sym far) ∙ z)

  -- one that ran is gone
  pub gone_stopped : (new : List (Option ℕ)) (n i : ℕ) (was now : Started) → slice_get xs i ≡ Some was → has_node (Some now) ≡ false → with_running n None rows new → running_at n rows ≡ Some (i + 1) → OnlyRunning (slice_set xs i now) new
  gone_stopped new n i was now before off runs ran k z = by (eqb k (i + 1)) refl
    where
      another : eqb k (i + 1) ≡ false → (o : Option Started) → is_at k o new ≡ false → is_at k o rows ≡ false
      another e None q = refl
      another e (Some x) q = at (eqb x.node n) refl
        where
          at : (t : Bool) → eqb x.node n ≡ t → same_number k (running_at x.node rows) ≡ false
          at true m = ap (λ j. same_number k (running_at j rows)) (eqb-true x.node n m) ∙ ap (same_number k) ran ∙ eqb-comm (i + 1) k ∙ e
          at false m = ap (same_number k) (sym (runs x.node ∙ ap (λ t. cond t None (running_at x.node rows)) m)) ∙ q

      by : (t : Bool) → eqb k (i + 1) ≡ t → has_node (nth k (slice_set xs i now)) ≡ false
      by true e = ap has_node (nth_same k i xs now (eqb-true k (i + 1) e) (in_reach xs i was before)) ∙ off
      by false e = let far = nth_other (i + 1) i k xs now refl e in ap has_node far ∙ only k (another e (nth k xs) (ap (λ o. is_at k o new) (sym far) ∙ z))

  -- one starts where none ran
  pub gone_more : (new : List (Option ℕ)) (n : ℕ) (x : Started) → x.node ≡ n → with_running n (Some (length xs + 1)) rows new → running_at n rows ≡ None → OnlyRunning (xs ++ x ∷ []) new
  gone_more new n x node runs free k z = by (nth k (xs ++ x ∷ [])) refl z
    where
      earlier : (y : Started) → is_at k (Some y) new ≡ false → (t : Bool) → eqb y.node n ≡ t → same_number k (running_at y.node rows) ≡ false
      earlier y q true m = ap (λ j. same_number k (running_at j rows)) (eqb-true y.node n m) ∙ ap (same_number k) free
      earlier y q false m = ap (same_number k) (sym (runs y.node ∙ ap (λ t. cond t (Some (length xs + 1)) (running_at y.node rows)) m)) ∙ q

      last : k ≡ length xs + 1 → same_number k (running_at n new) ≡ true
      last e = ap (same_number k) (runs n ∙ ap (λ t. cond t (Some (length xs + 1)) (running_at n rows)) (eq-eqb n n refl)) ∙ eq-eqb (length xs + 1) k (sym e)

      at : (y : Started) → is_at k (Some y) new ≡ false → (nth k xs ≡ Some y) ⊎ ((k ≡ length xs + 1) × (y ≡ x)) → has_node (Some y) ≡ false
      at y q (inl t) = sym (ap has_node t) ∙ only k (ap (λ o. is_at k o rows) t ∙ earlier y q (eqb y.node n) refl)
      at y q (inr t) = absurd (true≢false (sym (last t.0) ∙ ap (λ j. same_number k (running_at j new)) (sym node ∙ ap (λ (w : Started). w.node) (sym t.1)) ∙ q))

      by : (o : Option Started) → nth k (xs ++ x ∷ []) ≡ o → is_at k o new ≡ false → has_node o ≡ false
      by None e q = refl
      by (Some y) e q = at y q (nth_cases k xs x y e)
