-- What is kept beside the rows agrees with them after a change.
use Rattle.std.proofs.Common.{◌≡◌, ℕ, ◌==◌, ◌≤◌, ◌-◌, ◌^◌, ◌||◌, Bool, true, false, cond, eqb, ltb, nat_le, List, [], Option, Some, None, IfSome, is_some, refl, sym, ap, ◌∙◌, arith, nat_cmp, eqb-true, eq-eqb, subst}
use Rattle.std.specs.BTreeMap.{is_at}
use Rattle.std.specs.FinMap as map
use Rattle.std.specs.List.Sorted.{IsStrictlySortedBy}
use Rattle.std.specs.Map.{keys_of}
use Rattle.std.specs.Option.{option_map_or}
use Rattle.std.proofs.lemmas.Bool.{ltb-false, le-leb}
use Rattle.zre_journal.proofs.NumberedLists.{eqb-comm}
use Rattle.zre_timers.specs.Moments.{Moments, NoneAfter, moment_of, moment_of-empty, moment_of-insert, moment_of-remove, NoneAfter-empty, NoneAfter-insert, NoneAfter-remove}
use Rattle.zre_tables.specs.Agreement.{AreHeard, Agree}
use Rattle.zre_tables.specs.Rows.{row_at, with_row}
use Rattle.zre_tables.specs.declared.peer.Peer.{Peer}
use Rattle.zre_tables.proofs.EntriesOfMaps.{at-eqb}
use Rattle.zre_tables.proofs.RowsInOrder.{at_set, rising_set}

-- the rows have o at n, and what they had before elsewhere
abbrev pub PutAt : ℕ → Option Peer → List (ℕ × Peer) → List (ℕ × Peer) → Type 0
PutAt n o old new = (q : ℕ) → row_at q new ≡ cond (is_at (nat_cmp n) q) o (row_at q old)

pub some_is : {A : Type 0} (x y : A) → Some x ≡ Some y → x ≡ y
some_is x y e = cc

module _ (old new : List (ℕ × Peer)) (n : ℕ) (o : Option Peer) (put : PutAt n o old new) where
  here : row_at n new ≡ o
  here = put n ∙ ap (λ b. cond b o (row_at n old)) (at-eqb n n ∙ eq-eqb n n refl)

  elsewhere : (q : ℕ) → eqb n q ≡ false → row_at q new ≡ row_at q old
  elsewhere q far = put q ∙ ap (λ b. cond b o (row_at q old)) (at-eqb n q ∙ far)

  -- what holds of the rows that stay, and of that one
  each_put : (P Q : ℕ → Peer → Type 0) → ((q : ℕ) (x : Peer) → row_at q old ≡ Some x → P q x) → ((q : ℕ) (x : Peer) → eqb n q ≡ false → P q x → Q q x) → ((x : Peer) → o ≡ Some x → Q n x) → (q : ℕ) (x : Peer) → row_at q new ≡ Some x → Q q x
  each_put P Q each stays it q x e = by (eqb n q) refl
    where
      by : (b : Bool) → eqb n q ≡ b → Q q x
      by true same = let m : n ≡ q = eqb-true n q same in subst (λ k. Q k x) m (it x (sym here ∙ ap (λ k. row_at k new) m ∙ e))
      by false far = stays q x far (each q x (sym (elsewhere q far) ∙ e))

-- a row that was changed
pub put_heard : (old new : List (ℕ × Peer)) (heard : Moments) (r r' : Bool) (n : ℕ) (k w : Peer) → Some k ≡ row_at n old → PutAt n (Some w) old new → (r' ≡ false → r ≡ false) → (r' ≡ false → k.active ≤ w.active)
    → AreHeard old heard r → AreHeard new heard r'
put_heard old new heard r r' n k w found put going later a = record {
  timed = λ q. a.timed q ∙ by q (eqb n q) refl;
  moments = λ z. each_put old new n (Some w) put (λ q x. IfSome (moment_of heard q) (λ m. m ≤ x.active)) (λ q x. IfSome (moment_of heard q) (λ m. m ≤ x.active))
      (a.moments (going z)) (λ q x far p. p) (λ x e. subst (λ (y : Peer). IfSome (moment_of heard n) (λ m. m ≤ y.active)) (some_is w x e) (more (moment_of heard n) (later z) (a.moments (going z) n k (sym found))));
  past = a.past;
}
  where
    by : (q : ℕ) (b : Bool) → eqb n q ≡ b → is_some (row_at q old) ≡ is_some (row_at q new)
    by q true same =
        let m : n ≡ q = eqb-true n q same in
        ap (λ j. is_some (row_at j old)) (sym m) ∙ ap is_some (sym found) ∙ sym (ap is_some (ap (λ j. row_at j new) (sym m) ∙ here old new n (Some w) put))
    by q false far = ap is_some (sym (elsewhere old new n (Some w) put q far))

    more : (o : Option ℕ) → k.active ≤ w.active → IfSome o (λ m. m ≤ k.active) → IfSome o (λ m. m ≤ w.active)
    more None l p = tt
    more (Some m) l p = omega (arith, l, p)

pub put_agrees : (old new : List (ℕ × Peer)) (heard : Moments) (r r' : Bool) (n : ℕ) (k w : Peer) → row_at n old ≡ Some k → new ≡ with_row n w old → (r' ≡ false → r ≡ false) → (r' ≡ false → k.active ≤ w.active)
    → Agree old heard r → Agree new heard r'
put_agrees old new heard r r' n k w found put going later a = record {
  rising = rw put (rising_set n w old a.rising);
  times = put_heard old new heard r r' n k w (sym found) (λ q. ap (row_at q) put ∙ at_set n q k w old found) going later a.times;
}

-- a row of which the time hasn't changed
pub still_agrees : (old new : List (ℕ × Peer)) (heard : Moments) (r : Bool) (n : ℕ) (k w : Peer) → row_at n old ≡ Some k → new ≡ with_row n w old → w.active ≡ k.active → Agree old heard r → Agree new heard r
still_agrees old new heard r n k w found put active a = put_agrees old new heard r r n k w found put (λ z. z) (λ z. omega (arith, active)) a

or_false : (a b : Bool) → (a || b) ≡ false → (a ≡ false) × (b ≡ false)
or_false true b e = absurd cc
or_false false b e = (refl, e)

-- a row that shows that its peer is there
pub renewed_agrees : (old new : List (ℕ × Peer)) (heard : Moments) (r r' : Bool) (n t : ℕ) (k w : Peer) → row_at n old ≡ Some k → new ≡ with_row n w old → w.active ≡ t → r' ≡ (r || ltb t k.active) → Agree old heard r → Agree new heard r'
renewed_agrees old new heard r r' n t k w found put active back a =
    put_agrees old new heard r r' n k w found put (λ z. (or_false r (ltb t k.active) (sym back ∙ z)).0)
    (λ z. omega (arith, active, ltb-false t k.active (or_false r (ltb t k.active) (sym back ∙ z)).1)) a

-- no rows
pub none_agree : (rows : List (ℕ × Peer)) (heard : Moments) → rows ≡ [] → heard ≡ map.empty → IsStrictlySortedBy nat_cmp (keys_of rows) → Agree rows heard false
none_agree rows heard none quiet up = record {
  rising = up;
  times = record {
    timed = λ q. ap is_some (ap (λ m. moment_of m q) quiet ∙ moment_of-empty q) ∙ ap (λ es. is_some (row_at q es)) (sym none);
    moments = λ z q x e. let f : None ≡ Some x = ap (row_at q) (sym none) ∙ e in absurd cc;
    past = subst (NoneAfter (2 ^ 64 - 1)) (sym quiet) (NoneAfter-empty (2 ^ 64 - 1));
  };
}

-- a new row, with the first of all moments
pub insert_agrees : (old new : List (ℕ × Peer)) (heard now : Moments) (r : Bool) (n : ℕ) (w : Peer) → now ≡ map.insert heard n 0 → IsStrictlySortedBy nat_cmp (keys_of new) → PutAt n (Some w) old new
    → Agree old heard r → Agree new now r
insert_agrees old new heard now r n w touched up put a = record {
  rising = up;
  times = record {
    timed = λ q. ap is_some (ap (λ m. moment_of m q) touched ∙ moment_of-insert heard n 0 q) ∙ by q (eqb n q) refl;
    moments = λ z. each_put old new n (Some w) put (λ q x. IfSome (moment_of heard q) (λ m. m ≤ x.active)) (λ q x. IfSome (moment_of now q) (λ m. m ≤ x.active)) (a.times.moments z)
        (λ q x far p. subst (λ o. IfSome o (λ m. m ≤ x.active)) (sym (ap (λ m. moment_of m q) touched ∙ moment_of-insert heard n 0 q ∙ off q far)) p)
        (λ x e. subst (λ o. IfSome o (λ m. m ≤ x.active)) (sym (ap (λ m. moment_of m n) touched ∙ moment_of-insert heard n 0 n ∙ on)) (omega arith));
    past = subst (NoneAfter (2 ^ 64 - 1)) (sym touched) (NoneAfter-insert heard n 0 (2 ^ 64 - 1) a.times.past (omega arith));
  };
}
  where
    on : cond (n == n) (Some 0) (moment_of heard n) ≡ Some 0
    on = ap (λ b. cond b (Some 0) (moment_of heard n)) (eq-eqb n n refl)

    swap : (q : ℕ) → (q == n) ≡ eqb n q
    swap q = eqb-comm q n

    off : (q : ℕ) → eqb n q ≡ false → cond (q == n) (Some 0) (moment_of heard q) ≡ moment_of heard q
    off q far = ap (λ b. cond b (Some 0) (moment_of heard q)) (swap q ∙ far)

    by : (q : ℕ) (b : Bool) → eqb n q ≡ b → is_some (cond (q == n) (Some 0) (moment_of heard q)) ≡ is_some (row_at q new)
    by q true same =
        let m : n ≡ q = eqb-true n q same in
        ap (λ b. is_some (cond b (Some 0) (moment_of heard q))) (swap q ∙ same) ∙ sym (ap is_some (ap (λ j. row_at j new) (sym m) ∙ here old new n (Some w) put))
    by q false far = ap is_some (off q far) ∙ a.times.timed q ∙ ap is_some (sym (elsewhere old new n (Some w) put q far))

-- no row came, and its moment was taken back
pub taken_back : (rows : List (ℕ × Peer)) (heard now : Moments) (r : Bool) (n : ℕ) → row_at n rows ≡ None → now ≡ map.remove (map.insert heard n 0) n → Agree rows heard r → Agree rows now r
taken_back rows heard now r n none back a = record {
  rising = a.rising;
  times = record {
    timed = λ q. ap is_some (same q) ∙ a.times.timed q;
    moments = λ z q x e. subst (λ o. IfSome o (λ m. m ≤ x.active)) (sym (same q)) (a.times.moments z q x e);
    past = λ q. subst (λ o. IfSome o (λ m. m ≤ 2 ^ 64 - 1)) (sym (same q)) (a.times.past q);
  };
}
  where
    gone : (o : Option ℕ) → is_some o ≡ false → None ≡ o
    gone None e = refl
    gone (Some m) e = absurd cc

    by : (q : ℕ) (b : Bool) → (q == n) ≡ b → cond b None (cond b (Some 0) (moment_of heard q)) ≡ moment_of heard q
    by q true e = let m : q ≡ n = eqb-true q n e in gone (moment_of heard q) (a.times.timed q ∙ ap (λ j. is_some (row_at j rows)) m ∙ ap is_some none)
    by q false e = refl

    same : (q : ℕ) → moment_of now q ≡ moment_of heard q
    same q =
        ap (λ m. moment_of m q) back ∙ moment_of-remove (map.insert heard n 0) n q
        ∙ ap (λ o. cond (q == n) None o) (moment_of-insert heard n 0 q) ∙ by q (q == n) refl

-- a row that was taken out, with its moment
pub remove_agrees : (old new : List (ℕ × Peer)) (heard now : Moments) (r : Bool) (n : ℕ) → now ≡ map.remove heard n → IsStrictlySortedBy nat_cmp (keys_of new) → PutAt n None old new
    → Agree old heard r → Agree new now r
remove_agrees old new heard now r n forgot up put a = record {
  rising = up;
  times = record {
    timed = λ q. ap is_some (ap (λ m. moment_of m q) forgot ∙ moment_of-remove heard n q) ∙ by q (eqb n q) refl;
    moments = λ z. each_put old new n None put (λ q x. IfSome (moment_of heard q) (λ m. m ≤ x.active)) (λ q x. IfSome (moment_of now q) (λ m. m ≤ x.active)) (a.times.moments z)
        (λ q x far p. subst (λ o. IfSome o (λ m. m ≤ x.active)) (sym (ap (λ m. moment_of m q) forgot ∙ moment_of-remove heard n q ∙ ap (λ b. cond b None (moment_of heard q)) (eqb-comm q n ∙ far))) p)
        (λ x e. absurd cc);
    past = subst (NoneAfter (2 ^ 64 - 1)) (sym forgot) (NoneAfter-remove heard n (2 ^ 64 - 1) a.times.past);
  };
}
  where
    by : (q : ℕ) (b : Bool) → eqb n q ≡ b → is_some (cond (q == n) None (moment_of heard q)) ≡ is_some (row_at q new)
    by q true same =
        let m : n ≡ q = eqb-true n q same in
        ap (λ b. is_some (cond b None (moment_of heard q))) (eqb-comm q n ∙ same) ∙ sym (ap is_some (ap (λ j. row_at j new) (sym m) ∙ here old new n None put))
    by q false far = ap (λ b. is_some (cond b None (moment_of heard q))) (eqb-comm q n ∙ far) ∙ a.times.timed q ∙ ap is_some (sym (elsewhere old new n None put q far))

-- a moment that was brought up to date
pub touch_heard : (rows : List (ℕ × Peer)) (heard now : Moments) (r : Bool) (n : ℕ) (x : Peer) → Some x ≡ row_at n rows → x.active ≤ 2 ^ 64 - 1 → now ≡ map.insert heard n x.active → AreHeard rows heard r → AreHeard rows now r
touch_heard rows heard now r n x found fits touched a = record {
  timed = λ q. ap is_some (at q) ∙ by q (q == n) refl ∙ a.timed q;
  moments = λ z q y e. subst (λ o. IfSome o (λ m. m ≤ y.active)) (sym (at q)) (its q y e (q == n) refl (a.moments z q y e));
  past = subst (NoneAfter (2 ^ 64 - 1)) (sym touched) (NoneAfter-insert heard n x.active (2 ^ 64 - 1) a.past fits);
}
  where
    at : (q : ℕ) → moment_of now q ≡ cond (q == n) (Some x.active) (moment_of heard q)
    at q = ap (λ m. moment_of m q) touched ∙ moment_of-insert heard n x.active q

    by : (q : ℕ) (b : Bool) → (q == n) ≡ b → is_some (cond (q == n) (Some x.active) (moment_of heard q)) ≡ is_some (moment_of heard q)
    by q true e = let m : q ≡ n = eqb-true q n e in ap (λ b. is_some (cond b (Some x.active) (moment_of heard q))) e ∙ sym (a.timed q ∙ ap (λ j. is_some (row_at j rows)) m ∙ ap is_some (sym found))
    by q false e = ap (λ b. is_some (cond b (Some x.active) (moment_of heard q))) e

    its : (q : ℕ) (y : Peer) → row_at q rows ≡ Some y → (b : Bool) → (q == n) ≡ b → IfSome (moment_of heard q) (λ m. m ≤ y.active) → IfSome (cond (q == n) (Some x.active) (moment_of heard q)) (λ m. m ≤ y.active)
    its q y e true same p =
        let m : q ≡ n = eqb-true q n same in
        let it : x ≡ y = some_is x y (found ∙ ap (λ j. row_at j rows) (sym m) ∙ e) in
        subst (λ b. IfSome (cond b (Some x.active) (moment_of heard q)) (λ m. m ≤ y.active)) (sym same) (omega (arith, ap (λ (z : Peer). z.active) it))
    its q y e false far p = subst (λ b. IfSome (cond b (Some x.active) (moment_of heard q)) (λ m. m ≤ y.active)) (sym far) p

-- an old moment is found where its peer has rested
pub rests : (top back latest : ℕ) (o : Option ℕ) → back ≡ top - latest → is_some o ≡ true → IfSome o (λ m. m ≤ latest) → option_map_or (λ at. nat_le back (top - at)) o false ≡ true
rests top back latest None e some p = absurd cc
rests top back latest (Some m) e some p = le-leb back (top - m) (omega (arith, e, p))

pub idle_by : (o : Option ℕ) (active top latest : ℕ) → IfSome o (λ m. m ≤ active) → IfSome o (λ m. m ≤ top) → ((m : ℕ) → m ≤ active → m ≤ top → m ≤ latest) → IfSome o (λ m. m ≤ latest)
idle_by None active top latest p q f = tt
idle_by (Some m) active top latest p q f = f m p q
