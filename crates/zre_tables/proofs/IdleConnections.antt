-- Since when connections that run no peer have rested, after a change.
use Rattle.std.proofs.Common.{◌≡◌, ℕ, ◌-◌, ◌≤◌, Bool, true, false, nat_le, List, [], ◌∷◌, Some, is_none, refl, sym, ap, ◌∙◌, arith, nat_cmp, get_or, subst}
use Rattle.std.proofs.lemmas.Bool.{leb-false, lt-leb}
use Rattle.std.specs.BTreeMap.{is_at, insert_entry}
use Rattle.std.specs.List.{slice_get, slice_set}
use Rattle.std.specs.List.Sorted.{IsStrictlySortedBy}
use Rattle.std.specs.Map.{keys_of}
use Rattle.std.specs.declared.cmp.Ordering.{Ordering}
use Rattle.std.specs.declared.cmp.Ordering.TheVariants.{Less, Equal, Greater}
use Rattle.zre_tables.specs.declared.connection.Connection.{Connection}
use Rattle.zre_tables.specs.IdleConnections.{AllIdleFrom, IdleFrom}
use Rattle.zre_tables.specs.Rows.{row_at, with_row, without_row, numbers_of}
use Rattle.zre_tables.specs.Searches.{row_stale}
use Rattle.zre_tables.proofs.RowsInOrder.{Lies, lies, rising_set}

-- no rows
pub none_idle : (first : ℕ) (es : List (ℕ × Connection)) → es ≡ [] → AllIdleFrom first es
none_idle first es e = subst (AllIdleFrom first) (sym e) tt

-- an earlier moment
pub idle_earlier : (m first : ℕ) (es : List (ℕ × Connection)) → m ≤ first → AllIdleFrom first es → AllIdleFrom m es
idle_earlier m first [] l a = tt
idle_earlier m first (e ∷ es) l a = (λ none. let s = a.0 none in omega (arith, l, s), idle_earlier m first es l a.1)

-- a new row
pub idle_with : (first n : ℕ) (k : Connection) (es : List (ℕ × Connection)) → IdleFrom first k → AllIdleFrom first es → AllIdleFrom first (insert_entry nat_cmp es n k)
idle_with first n k [] r a = (r, tt)
idle_with first n k (e ∷ es) r a = by (idle_with first n k es r a.1) (nat_cmp n e.0) refl
  where
    by : AllIdleFrom first (insert_entry nat_cmp es n k) → (o : Ordering) → nat_cmp n e.0 ≡ o → AllIdleFrom first (insert_entry nat_cmp (e ∷ es) n k)
    by more Less q = rw q (r, a)
    by more Equal q = rw q (r, a.1)
    by more Greater q = rw q (a.0, more)

-- a row that was put in the place of another
pub idle_put : (first n : ℕ) (w : Connection) (es : List (ℕ × Connection)) → IdleFrom first w → AllIdleFrom first es → AllIdleFrom first (with_row n w es)
idle_put first n w [] r a = tt
idle_put first n w (e ∷ es) r a = by (idle_put first n w es r a.1) (is_at (nat_cmp n) e.0) refl
  where
    by : AllIdleFrom first (with_row n w es) → (b : Bool) → is_at (nat_cmp n) e.0 ≡ b → AllIdleFrom first (with_row n w (e ∷ es))
    by more true q = rw q (r, a.1)
    by more false q = rw q (a.0, more)

-- a row that was taken out
pub idle_without : (first n : ℕ) (es : List (ℕ × Connection)) → AllIdleFrom first es → AllIdleFrom first (without_row n es)
idle_without first n [] a = tt
idle_without first n (e ∷ es) a = by (idle_without first n es a.1) (is_at (nat_cmp n) e.0) refl
  where
    by : AllIdleFrom first (without_row n es) → (b : Bool) → is_at (nat_cmp n) e.0 ≡ b → AllIdleFrom first (without_row n (e ∷ es))
    by more true q = rw q a.1
    by more false q = rw q (a.0, more)

-- the row of a number
pub idle_at : (first n : ℕ) (k : Connection) (es : List (ℕ × Connection)) → Some k ≡ row_at n es → AllIdleFrom first es → IdleFrom first k
idle_at first n k [] found a = absurd cc
idle_at first n k (e ∷ es) found a = by (idle_at first n k es) (is_at (nat_cmp n) e.0) refl
  where
    by : (Some k ≡ row_at n es → AllIdleFrom first es → IdleFrom first k) → (b : Bool) → is_at (nat_cmp n) e.0 ≡ b → IdleFrom first k
    by more true q =
        let z : Some k ≡ Some e.1 = rw q at found in
        let same : k ≡ e.1 = cc in
        subst (IdleFrom first) (sym same) a.0
    by more false q = let z : Some k ≡ row_at n es = rw q at found in more z a.1

-- a row that keeps its moment and its run
idle_kept : (first n : ℕ) (k w : Connection) (es new : List (ℕ × Connection)) → Some k ≡ row_at n es → new ≡ with_row n w es → w.run ≡ k.run → w.since ≡ k.since → AllIdleFrom first es → AllIdleFrom first new
idle_kept first n k w es new found put run since a =
    subst (AllIdleFrom first) (sym put) (idle_put first n w es (λ none. let s = idle_at first n k es found a (sym (ap is_none run) ∙ none) in omega (arith, s, since)) a)

-- a row that runs a peer, or has rested since a moment that is no later
idle_changed : (first first' n : ℕ) (w : Connection) (es new : List (ℕ × Connection)) → new ≡ with_row n w es → first' ≤ first → IdleFrom first' w → AllIdleFrom first es → AllIdleFrom first' new
idle_changed first first' n w es new put l r a = subst (AllIdleFrom first') (sym put) (idle_put first' n w es r (idle_earlier first' first es l a))

-- a connection that lies at a place is put back: the numbers rise as before
module _ (first n i : ℕ) (es : List (ℕ × Connection)) (row : ℕ × Connection) (up : IsStrictlySortedBy nat_cmp (keys_of es)) (there : (x : Connection) × (slice_get es i ≡ Some (n, x))) (at : row ≡ get_or es i row) (w : Connection) where
  abbrev new : List (ℕ × Connection)
  new = slice_set es i (row.0, w)

  it : Lies es n i row
  it = lies es n i row up there at

  rises : IsStrictlySortedBy nat_cmp (keys_of new)
  rises = rw (it.set w) (rising_set n w es up)

  -- it keeps its moment and its run
  pub put_kept : w.run ≡ row.1.run → w.since ≡ row.1.since → AllIdleFrom first es → IsStrictlySortedBy nat_cmp (keys_of new) × AllIdleFrom first new
  put_kept run since a = (rises, idle_kept first n row.1 w es new (sym it.there_is) (it.set w) run since a)

  -- it runs a peer, or rests since a moment that is no later
  pub put_changed : (first' : ℕ) → first' ≤ first → IdleFrom first' w → AllIdleFrom first es → IsStrictlySortedBy nat_cmp (keys_of new) × AllIdleFrom first' new
  put_changed first' l r a = (rises, idle_changed first first' n w es new (it.set w) l r a)

-- a row that was listed, which runs a peer, or has rested since a moment that is no later
pub idle_listed : (first first' n : ℕ) (w : Connection) (es new : List (ℕ × Connection)) → new ≡ insert_entry nat_cmp es n w → first' ≤ first → IdleFrom first' w → AllIdleFrom first es → AllIdleFrom first' new
idle_listed first first' n w es new put l r a = subst (AllIdleFrom first') (sym put) (idle_with first' n w es r (idle_earlier first' first es l a))

-- no row was changed, and the moment is no later
pub idle_still : (first first' : ℕ) (es new : List (ℕ × Connection)) → new ≡ es → first' ≤ first → AllIdleFrom first es → AllIdleFrom first' new
idle_still first first' es new same l a = subst (AllIdleFrom first') (sym same) (idle_earlier first' first es l a)

-- a row that was taken out
pub idle_left : (first n : ℕ) (es new : List (ℕ × Connection)) → new ≡ without_row n es → AllIdleFrom first es → AllIdleFrom first new
idle_left first n es new gone a = subst (AllIdleFrom first) (sym gone) (idle_without first n es a)

below : (x y z : ℕ) → nat_le x y ≡ false → z ≤ y → nat_le x z ≡ false
below x y z f l = lt-leb x z (let g = leb-false x y f in omega (arith, g, l))

-- none is stale where the first of them isn't
pub none_stale : (limit now first : ℕ) (es : List (ℕ × Connection)) → nat_le limit (now - first) ≡ false → AllIdleFrom first es → numbers_of (row_stale limit now) es ≡ []
none_stale limit now first [] l a = refl
none_stale limit now first (e ∷ es) l a = by (none_stale limit now first es l a.1) (is_none e.1.run) refl
  where
    by : numbers_of (row_stale limit now) es ≡ [] → (b : Bool) → is_none e.1.run ≡ b → numbers_of (row_stale limit now) (e ∷ es) ≡ []
    by more true q =
        let s = a.0 q in
        let late : nat_le limit (now - e.1.since) ≡ false = below limit (now - first) (now - e.1.since) l (omega (arith, s)) in
        rw (q, late) more
    by more false q = rw q more

-- one row more
pub idle_next : (m first first' : ℕ) (n : ℕ) (k : Connection) (es rest all : List (ℕ × Connection)) → es ≡ (n, k) ∷ rest → first' ≤ first → IdleFrom first' k → ((j : ℕ) → j ≤ first → AllIdleFrom j es → AllIdleFrom j all)
    → m ≤ first' → AllIdleFrom m rest → AllIdleFrom m all
idle_next m first first' n k es rest all e low r so l a =
    so m (omega (arith, low, l)) (subst (AllIdleFrom m) (sym e) (λ none. let s = r none in omega (arith, s, l), a))
