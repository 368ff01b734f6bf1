-- A stop leaves nothing, acts pair up, and the node is no peer of its own.
use Rattle.std.proofs.Common.{◌≡◌, ◌≢◌, ℕ, ◌+◌, ◌<◌, ◌≤◌, Bool, true, false, true≢false, cond, not, ◌&&◌, eqb, ltb, List, [], ◌∷◌, ◌++◌, length, map, Option, Some, None, IsSome, find, refl, sym, ap, ◌∙◌, subst, arith, inl, inr, eqb-true, eq-eqb, append_assoc, append-nil, ltb-true}
use Rattle.std.specs.Prelude.{◌⊎◌}
use Rattle.std.proofs.lemmas.List.Elements.{filter_map-append}
use Rattle.std.specs.List.{AllByRecursion, filter_map, list_any, cons_option}
use Rattle.std.specs.Str.{bytes_eq}
use Rattle.zre_values.specs.declared.peer_id.PeerId.{PeerId}
use Rattle.zre_values.specs.declared.endpoint.Endpoint.{Endpoint}
use Rattle.zre_values.proofs.Digits.{bytes_eq-same}
use Rattle.zre_outside.specs.declared.act.Act.{Act}
use Rattle.zre_outside.specs.declared.act.Act.TheVariants as act
use Rattle.zre_outside.specs.declared.entry.Entry.{Entry}
use Rattle.zre_peer.specs.declared.causes.Cause.{Cause}
use Rattle.zre_peer.specs.declared.causes.Cause.TheVariants as cause
use Rattle.zre_values.specs.declared.settings.Settings.{Settings as Config}
use Rattle.zre_journal.specs.Chronicle.{Mark, Comes, Opens, TurnsAway, Greets, AnswersPing, Closes, IsShut, ClosesAtStop, Born, Ends, SendsBeacon, Stops}
use Rattle.zre_journal.specs.Closing.{LeavesNothing, connects, closes_link, closes_conn, connected, closed_links, closed_conns, IsPaired, ArePaired, IsNoPeer}
use Rattle.zre_journal.specs.Connections.{open_ones, is_open, is_new, has_ended, others}
use Rattle.zre_journal.specs.Done.{close_link, done_at}
use Rattle.zre_journal.specs.Events.{events, acts, chronicle}
use Rattle.zre_journal.specs.Happens.{has_stopped}
use Rattle.zre_journal.specs.Peers.{Life, lives, life, life_of, births}
use Rattle.zre_journal.specs.Proper.{IsProper}
use Rattle.zre_journal.proofs.WithinCounts.{none_kept}
use Rattle.zre_journal.proofs.MarkByMark.{on, told_and_done, always_sound, are_others}
use Rattle.zre_journal.proofs.KnownPeers.{same_id}
use Rattle.zre_journal.proofs.NumberedLists.{some_is, found, All-append, All-kept, any_append, any_of_append, any_left}
use Rattle.zre_journal.proofs.SoundMarks.{Sound}
use Rattle.zre_journal.proofs.KnownAreBorn.{none_open, last_open}
use Rattle.zre_journal.proofs.WhenMarksCome.{May}
use Rattle.zre_journal.proofs.ProperPeers.{known_lives, open_is_old}
use Rattle.std.proofs.lemmas.List.{length-append}
use Rattle.std.proofs.lemmas.Bool.{and_right}

-- ---- a stop

pub leaves_nothing : (g : Config) (journal : List Entry) → has_stopped (chronicle g journal) ≡ true → LeavesNothing (events g journal) (chronicle g journal)
leaves_nothing g journal = told_and_done g (λ js es done_ H. has_stopped H ≡ true → LeavesNothing es H)
    (λ js es done_ e H x s. let r = x s in record { none_known = r.none_known; none_open = r.none_open; before = r.before; stop_is_last = r.stop_is_last })
    (λ js es done_ h H n q m s x t. absurd (true≢false (sym t ∙ on g h H s n)))
    (λ js es done_ H k o x s. record { none_known = k; none_open = o; before = es; stop_is_last = refl })
    (λ js es done_ H vs x. x) (λ s. cc) journal

-- ---- the node itself

none_and : {A : Type 0} (t : A → Bool) (xs : List A) (y : A) → find t xs ≡ None → t y ≡ false → find t (xs ++ y ∷ []) ≡ None
none_and t [] y n e = rw e refl
none_and t (x ∷ xs) y n e = by (t x) n (λ k. none_and t xs y k e)
  where
    by : (b : Bool) → cond b (Some x) (find t xs) ≡ None → (find t xs ≡ None → find t (xs ++ y ∷ []) ≡ None) → cond b (Some x) (find t (xs ++ y ∷ [])) ≡ None
    by true k r = cc
    by false k r = r k

turned : (p q : PeerId) → bytes_eq p.0 q.0 ≡ false → bytes_eq q.0 p.0 ≡ false
turned p q e = by (bytes_eq q.0 p.0) refl
  where
    by : (b : Bool) → bytes_eq q.0 p.0 ≡ b → b ≡ false
    by false k = refl
    by true k = let z : true ≡ false = sym (bytes_eq-same p.0 q.0 (ap (λ (i : PeerId). i.0) (same_id q p k))) ∙ e in cc

module _ (g : Config) where
  unknown_more : (h : Mark) (H : List Mark) → Sound g h H → life_of g.id H ≡ None → life_of g.id (h ∷ H) ≡ None
  unknown_more (Born l p to) H s n = none_and (λ (v : Life). bytes_eq g.id.0 v.id.0) (lives H) (record { link = l; id = p; endpoint = to }) n (turned p g.id s)
  unknown_more (Ends l why) H s n = none_kept (λ (v : Life). bytes_eq g.id.0 v.id.0) (λ (v : Life). not (eqb l v.link)) (lives H) n
  unknown_more _ H s n = n

  pub no_peer : (journal : List Entry) → IsNoPeer g (chronicle g journal)
  no_peer journal = record {
    unknown = always_sound g (λ H. life_of g.id H ≡ None) (λ e H x. x) (λ h H q m s x. unknown_more h H s x) (λ H k o x. x) refl journal;
    never_comes = λ c e. true≢false (sym (bytes_eq-same g.id.0 g.id.0 refl) ∙ are_others g journal c g.id e);
  }

-- ---- lists of numbers

one_none : {A : Type 0} (f : A → Option ℕ) (xs : List A) (y : A) → f y ≡ None → filter_map f (xs ++ y ∷ []) ≡ filter_map f xs
one_none f xs y e = filter_map-append f xs (y ∷ []) ∙ ap (λ o. filter_map f xs ++ cons_option o []) e ∙ append-nil (filter_map f xs)

one_more : {A : Type 0} (f : A → Option ℕ) (xs : List A) (y : A) (n : ℕ) → f y ≡ Some n → filter_map f (xs ++ y ∷ []) ≡ filter_map f xs ++ n ∷ []
one_more f xs y n e = filter_map-append f xs (y ∷ []) ∙ ap (λ o. filter_map f xs ++ cons_option o []) e

abbrev Has : ℕ → List ℕ → Type 0
Has n ns = list_any (eqb n) ns ≡ true

not_there : (n : ℕ) (ns : List ℕ) → (Has n ns → ⊥) → list_any (eqb n) ns ≡ false
not_there n ns f = by (list_any (eqb n) ns) refl
  where
    by : (b : Bool) → list_any (eqb n) ns ≡ b → b ≡ false
    by false e = refl
    by true e = absurd (f e)

-- ---- acts

-- one of a list with one more at the end is that one, or stands before it
split : (xs before later : List Act) (a b : Act) → xs ++ a ∷ [] ≡ before ++ b ∷ later → ((before ≡ xs) × (b ≡ a)) ⊎ ((ys : List Act) × (xs ≡ before ++ b ∷ ys))
split [] [] later a b e = inl (refl, (let same : b ≡ a = cc in same))
split [] (y ∷ []) later a b e = absurd (let z : [] ≡ b ∷ later = cc in cc)
split [] (y ∷ z ∷ before) later a b e = absurd (let w : [] ≡ z ∷ (before ++ b ∷ later) = cc in cc)
split (x ∷ xs) [] later a b e = inr (xs, (let same : x ≡ b = cc in ap (λ y. y ∷ xs) same))
split (x ∷ xs) (y ∷ before) later a b e =
    let first : x ≡ y = cc in
    elim (split xs before later a b (let rest : xs ++ a ∷ [] ≡ before ++ b ∷ later = cc in rest)) [
      | inl p ↦ inl (ap (λ (ys : List Act). y ∷ ys) p.0 ∙ ap (λ z. z ∷ xs) (sym first), p.1)
      | inr p ↦ inr (p.0, ap (λ z. z ∷ xs) first ∙ ap (λ (ys : List Act). y ∷ ys) p.1)
    ]

more_paired : (done_ : List Act) (a : Act) → ArePaired done_ → IsPaired done_ a → ArePaired (done_ ++ a ∷ [])
more_paired done_ a o m before later b e =
    elim (split done_ before later a b e) [
      | inl p ↦ subst (λ (xs : List Act). IsPaired xs b) (sym p.0) (subst (IsPaired done_) (sym p.1) m)
      | inr p ↦ o before p.0 b p.1
    ]

-- acts that pair up, and what H says of them
record Paired (done_ : List Act) (H : List Mark) : Type 0 where
  paired : ArePaired done_
  count : length (connected done_) ≡ births H
  numbered : (l : ℕ) → 1 ≤ l → l ≤ births H → Has l (connected done_)
  positive : AllByRecursion (λ (v : Life). 1 ≤ v.link) (lives H)
  ended : (l : ℕ) → Has l (closed_links done_) → has_ended l H ≡ true
  shut : (c : ℕ) → Has c (closed_conns done_) → (is_open c H ≡ false) × (is_new c H ≡ false)

-- the same, after a mark without an act
quiet : (done_ : List Act) (H : List Mark) → Paired done_ H → Paired (done_ ++ []) H
quiet done_ H o = subst (λ xs. Paired xs H) (sym (append-nil done_)) o

-- after an act that neither connects nor closes
mild : (done_ : List Act) (a : Act) (H : List Mark) → IsPaired done_ a → connects a ≡ None → closes_link a ≡ None → closes_conn a ≡ None → Paired done_ H → Paired (done_ ++ a ∷ []) H
mild done_ a H m x y z o = record {
  paired = more_paired done_ a o.paired m;
  count = ap length (one_none connects done_ a x) ∙ o.count;
  numbered = λ l i j. ap (λ ns. list_any (eqb l) ns) (one_none connects done_ a x) ∙ o.numbered l i j;
  positive = o.positive;
  ended = λ l h. o.ended l (sym (ap (λ ns. list_any (eqb l) ns) (one_none closes_link done_ a y)) ∙ h);
  shut = λ c h. o.shut c (sym (ap (λ ns. list_any (eqb c) ns) (one_none closes_conn done_ a z)) ∙ h);
}

offers_paired : (vs : List Life) (done_ : List Act) (H : List Mark) → Paired done_ H → Paired (done_ ++ map (λ (v : Life). act.Offer v.link) vs) H
offers_paired [] done_ H o = quiet done_ H o
offers_paired (v ∷ vs) done_ H o = subst (λ xs. Paired xs H) (append_assoc done_ (act.Offer v.link ∷ []) (map (λ (v : Life). act.Offer v.link) vs)) (offers_paired vs (done_ ++ act.Offer v.link ∷ []) H (mild done_ (act.Offer v.link) H tt refl refl refl o))

module _ (done_ : List Act) (H : List Mark) (q : IsProper H) (o : Paired done_ H) where
  -- ---- links

  bears : (l : ℕ) (p : PeerId) (to : Endpoint) → l ≡ births H + 1 → Paired (done_ ++ act.Connect l to ∷ []) (Born l p to ∷ H)
  bears l p to e = record {
    paired = more_paired done_ a o.paired (e ∙ ap (λ n. n + 1) (sym o.count));
    count = ap length more ∙ length-append (connected done_) (l ∷ []) ∙ ap (λ n. n + 1) o.count;
    numbered = λ k i j. ap (λ ns. list_any (eqb k) ns) more ∙ in_all k i (eqb k l) refl j;
    positive = All-append (λ (v : Life). 1 ≤ v.link) (lives H) (record { link = l; id = p; endpoint = to }) o.positive (omega (arith, e));
    ended = λ k h. o.ended k (sym (ap (λ ns. list_any (eqb k) ns) (one_none closes_link done_ a refl)) ∙ h);
    shut = λ c h. o.shut c (sym (ap (λ ns. list_any (eqb c) ns) (one_none closes_conn done_ a refl)) ∙ h);
  }
    where
      a : Act
      a = act.Connect l to

      more : connected (done_ ++ a ∷ []) ≡ connected done_ ++ l ∷ []
      more = one_more connects done_ a l refl

      in_all : (k : ℕ) → 1 ≤ k → (b : Bool) → eqb k l ≡ b → k ≤ births H + 1 → Has k (connected done_ ++ l ∷ [])
      in_all k i true f j = subst (λ n. Has k (connected done_ ++ n ∷ [])) (eqb-true k l f) (last_open k (connected done_))
      in_all k i false f j = any_append k l (connected done_) (o.numbered k i (let far : k ≢ l = λ same. true≢false (sym (eq-eqb k l same) ∙ f) in omega (arith, e, far, j)))

  ends_link : (l : ℕ) (why : Cause) → IsSome (life l H) → Paired (done_ ++ close_link l why) (Ends l why ∷ H)
  ends_link l why k = by why
    where
      stays : (m : ℕ) → has_ended m H ≡ true → has_ended m (Ends l why ∷ H) ≡ true
      stays m e = at (eqb m l)
        where
          at : (b : Bool) → cond b true (has_ended m H) ≡ true
          at true = refl
          at false = e

      positive : AllByRecursion (λ (v : Life). 1 ≤ v.link) (lives (Ends l why ∷ H))
      positive = All-kept (λ (v : Life). 1 ≤ v.link) (λ (v : Life). not (eqb l v.link)) (lives H) o.positive

      same : Paired done_ (Ends l why ∷ H)
      same = record { paired = o.paired; count = o.count; numbered = o.numbered; positive = positive; ended = λ m h. stays m (o.ended m h); shut = o.shut }

      closed : Paired (done_ ++ act.CloseLink l ∷ []) (Ends l why ∷ H)
      closed = record {
        paired = more_paired done_ a o.paired (o.numbered l (subst (λ n. 1 ≤ n) (sym is.2) first) is.1, not_there l (closed_links done_) (λ h. true≢false (sym (o.ended l h) ∙ is.0)));
        count = ap length (one_none connects done_ a refl) ∙ o.count;
        numbered = λ m i j. ap (λ ns. list_any (eqb m) ns) (one_none connects done_ a refl) ∙ o.numbered m i j;
        positive = positive;
        ended = λ m h. now m (eqb m l) refl (sym (ap (λ ns. list_any (eqb m) ns) (one_more closes_link done_ a l refl)) ∙ h);
        shut = λ c h. o.shut c (sym (ap (λ ns. list_any (eqb c) ns) (one_none closes_conn done_ a refl)) ∙ h);
      }
        where
          a : Act
          a = act.CloseLink l

          v : (u : Life) × (life l H ≡ Some u)
          v = some_is (life l H) k

          is : (has_ended l H ≡ false) × (l ≤ births H) × (l ≡ v.0.link)
          is = known_lives H q l v.0 v.1

          first : 1 ≤ v.0.link
          first = (found (λ (u : Life). 1 ≤ u.link) (λ (u : Life). eqb l u.link) (lives H) v.0 o.positive v.1).0

          now : (m : ℕ) (b : Bool) → eqb m l ≡ b → Has m (closed_links done_ ++ l ∷ []) → cond b true (has_ended m H) ≡ true
          now m true e h = refl
          now m false e h = o.ended m (any_of_append m l (closed_links done_) e h)

      by : (why' : Cause) → Paired (done_ ++ close_link l why') (Ends l why ∷ H)
      by cause.Link = quiet done_ (Ends l why ∷ H) same
      by _ = closed

  -- ---- connections

  not_new : (c : ℕ) → is_open c H ≡ true → is_new c H ≡ false
  not_new c e = by (is_new c H) refl
    where
      by : (b : Bool) → is_new c H ≡ b → b ≡ false
      by false n = refl
      by true n = let z : true ≡ false = sym (eq-eqb c c refl) ∙ open_is_old H q c c e n in cc

  not_open : (c : ℕ) → is_new c H ≡ true → is_open c H ≡ false
  not_open c n = not_there c (open_ones H) (λ e. true≢false (sym n ∙ not_new c e))

  -- one that isn't open stays so where another is taken out
  left_shut : (c d : ℕ) → is_open d H ≡ false → list_any (eqb d) (others c (open_ones H)) ≡ false
  left_shut c d e = not_there d (others c (open_ones H)) (λ h. true≢false (sym (any_left c d (open_ones H) h) ∙ e))

  -- what is so of c and was so of those that were closed before it is so of all
  with_last : (P : ℕ → Type 0) (c : ℕ) → P c → ((d : ℕ) → Has d (closed_conns done_) → P d) → (d : ℕ) → Has d (closed_conns (done_ ++ act.CloseConn c ∷ [])) → P d
  with_last P c now was d h = by (eqb d c) refl
    where
      more : Has d (closed_conns done_ ++ c ∷ [])
      more = sym (ap (λ ns. list_any (eqb d) ns) (one_more closes_conn done_ (act.CloseConn c) c refl)) ∙ h

      by : (b : Bool) → eqb d c ≡ b → P d
      by true e = subst P (sym (eqb-true d c e)) now
      by false e = was d (any_of_append d c (closed_conns done_) e more)

  -- one that is closed where it is open, or turned away, wasn't closed before
  closing : (c : ℕ) (h : Mark) → (Has c (closed_conns done_) → ⊥) → births (h ∷ H) ≡ births H → lives (h ∷ H) ≡ lives H → ((l : ℕ) → has_ended l (h ∷ H) ≡ has_ended l H)
      → ((d : ℕ) → Has d (closed_conns (done_ ++ act.CloseConn c ∷ [])) → (is_open d (h ∷ H) ≡ false) × (is_new d (h ∷ H) ≡ false)) → Paired (done_ ++ act.CloseConn c ∷ []) (h ∷ H)
  closing c h free b v n shut = record {
    paired = more_paired done_ a o.paired (not_there c (closed_conns done_) free);
    count = ap length (one_none connects done_ a refl) ∙ o.count ∙ sym b;
    numbered = λ l i j. ap (λ ns. list_any (eqb l) ns) (one_none connects done_ a refl) ∙ o.numbered l i (subst (λ m. l ≤ m) b j);
    positive = subst (λ (vs : List Life). AllByRecursion (λ (u : Life). 1 ≤ u.link) vs) (sym v) o.positive;
    ended = λ l k. n l ∙ o.ended l (sym (ap (λ ns. list_any (eqb l) ns) (one_none closes_link done_ a refl)) ∙ k);
    shut = shut;
  }
    where
      a : Act
      a = act.CloseConn c

  -- c is open, and isn't so after it is closed
  closed_now : (c : ℕ) → is_open c H ≡ true → (d : ℕ) → Has d (closed_conns (done_ ++ act.CloseConn c ∷ [])) → (list_any (eqb d) (others c (open_ones H)) ≡ false) × (is_new d H ≡ false)
  closed_now c e = with_last (λ d. (list_any (eqb d) (others c (open_ones H)) ≡ false) × (is_new d H ≡ false)) c
      (none_open c c (eq-eqb c c refl) (open_ones H), not_new c e) (λ d h. (left_shut c d (o.shut d h).0, (o.shut d h).1))

  was_open : (c : ℕ) → is_open c H ≡ true → Has c (closed_conns done_) → ⊥
  was_open c e h = true≢false (sym e ∙ (o.shut c h).0)

  turns_away : (c : ℕ) → is_new c H ≡ true → Paired (done_ ++ act.CloseConn c ∷ []) (TurnsAway c ∷ H)
  turns_away c n = closing c (TurnsAway c) (λ h. true≢false (sym n ∙ (o.shut c h).1)) refl refl (λ l. refl)
      (with_last (λ d. (is_open d H ≡ false) × ((ltb c d && is_new d H) ≡ false)) c
      (not_open c n, ap (λ b. b && is_new c H) (itself c)) (λ d h. ((o.shut d h).0, and_right (ltb c d) (is_new d H) (o.shut d h).1)))
    where
      itself : (c : ℕ) → ltb c c ≡ false
      itself c = by (ltb c c) refl
        where
          by : (b : Bool) → ltb c c ≡ b → b ≡ false
          by false e = refl
          by true e = let less : c < c = ltb-true c c e in absurd (omega (arith, less))

  opens : (c : ℕ) → is_new c H ≡ true → Paired done_ (Opens c ∷ H)
  opens c n = record {
    paired = o.paired;
    count = o.count;
    numbered = o.numbered;
    positive = o.positive;
    ended = o.ended;
    shut = λ d h. (still d (eqb d c) refl h, and_right (ltb c d) (is_new d H) (o.shut d h).1);
  }
    where
      still : (d : ℕ) (b : Bool) → eqb d c ≡ b → Has d (closed_conns done_) → list_any (eqb d) (open_ones H ++ c ∷ []) ≡ false
      still d true e h = absurd (true≢false (sym n ∙ ap (λ m. is_new m H) (sym (eqb-true d c e)) ∙ (o.shut d h).1))
      still d false e h = not_there d (open_ones H ++ c ∷ []) (λ k. true≢false (sym (any_of_append d c (open_ones H) e k) ∙ (o.shut d h).0))

-- after a mark that begins and ends nothing
same : (done_ : List Act) (h : Mark) (H : List Mark) → births (h ∷ H) ≡ births H → lives (h ∷ H) ≡ lives H → ((l : ℕ) → has_ended l (h ∷ H) ≡ has_ended l H)
    → ((c : ℕ) → is_open c (h ∷ H) ≡ is_open c H) → ((c : ℕ) → is_new c (h ∷ H) ≡ is_new c H) → Paired done_ H → Paired done_ (h ∷ H)
same done_ h H b v n i w o = record {
  paired = o.paired;
  count = o.count ∙ sym b;
  numbered = λ l x y. o.numbered l x (subst (λ m. l ≤ m) b y);
  positive = subst (λ (vs : List Life). AllByRecursion (λ (u : Life). 1 ≤ u.link) vs) (sym v) o.positive;
  ended = λ l k. n l ∙ o.ended l k;
  shut = λ c k. (i c ∙ (o.shut c k).0, w c ∙ (o.shut c k).1);
}

module _ (g : Config) where
  keeps_paired : (done_ : List Act) (h : Mark) (H : List Mark) → IsProper H → May h H → Sound g h H → Paired done_ H → Paired (done_ ++ done_at g.id h) (h ∷ H)
  keeps_paired done_ (Comes e) H q m s o = absurd s
  keeps_paired done_ Stops H q m s o = absurd s
  keeps_paired done_ (Opens c) H q m s o = mild done_ (act.Answer c _) (Opens c ∷ H) tt refl refl refl (opens done_ H q o c m.is_fresh)
  keeps_paired done_ (TurnsAway c) H q m s o = turns_away done_ H q o c s
  keeps_paired done_ (Greets c) H q m s o = mild done_ (act.Answer c _) (Greets c ∷ H) tt refl refl refl (same done_ (Greets c) H refl refl (λ l. refl) (λ d. refl) (λ d. refl) o)
  keeps_paired done_ (AnswersPing c t) H q m s o = mild done_ (act.Answer c _) (AnswersPing c t ∷ H) tt refl refl refl (same done_ (AnswersPing c t) H refl refl (λ l. refl) (λ d. refl) (λ d. refl) o)
  keeps_paired done_ (SendsBeacon port) H q m s o = mild done_ (act.Beacon _) (SendsBeacon port ∷ H) tt refl refl refl (same done_ (SendsBeacon port) H refl refl (λ l. refl) (λ d. refl) (λ d. refl) o)
  keeps_paired done_ (Closes c why) H q m s o = closing done_ H q o c (Closes c why) (was_open done_ H q o c s) refl refl (λ l. refl) (closed_now done_ H q o c s)
  keeps_paired done_ (ClosesAtStop c) H q m s o = closing done_ H q o c (ClosesAtStop c) (was_open done_ H q o c s) refl refl (λ l. refl) (closed_now done_ H q o c s)
  keeps_paired done_ (IsShut c) H q m s o = quiet done_ (IsShut c ∷ H) (record {
    paired = o.paired;
    count = o.count;
    numbered = o.numbered;
    positive = o.positive;
    ended = o.ended;
    shut = λ d h. (left_shut done_ H q o c d (o.shut d h).0, (o.shut d h).1);
  })
  keeps_paired done_ (Born l p to) H q m s o = bears done_ H q o l p to m.next_link
  keeps_paired done_ (Ends l why) H q m s o = ends_link done_ H q o l why m
  keeps_paired done_ _ H q m s o = quiet done_ _ (same done_ _ H refl refl (λ l. refl) (λ d. refl) (λ d. refl) o)

  none_paired : Paired [] []
  none_paired = record { paired = none; count = refl; numbered = λ l i j. absurd (omega (arith, i, j)); positive = tt; ended = λ l h. cc; shut = λ c h. cc }
    where
      none : ArePaired []
      none [] later a e = absurd (let z : [] ≡ a ∷ later = e in cc)
      none (x ∷ before) later a e = absurd (let z : [] ≡ x ∷ (before ++ a ∷ later) = e in cc)

  pub are_paired : (journal : List Entry) → ArePaired (acts g journal)
  are_paired journal = (told_and_done g (λ js es done_ H. Paired done_ H)
      (λ js es done_ e H o. same done_ (Comes e) H refl refl (λ l. refl) (λ d. refl) (λ d. refl) o)
      (λ js es done_ h H n q m s o. keeps_paired done_ h H q m s o)
      (λ js es done_ H k c o. same done_ Stops H refl refl (λ l. refl) (λ d. refl) (λ d. refl) o)
      (λ js es done_ H vs o. offers_paired vs done_ H o) none_paired journal).paired
