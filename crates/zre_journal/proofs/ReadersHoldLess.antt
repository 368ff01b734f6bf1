-- What readers keep: an entry's octets change it on one connection or link, and what comes about then never raises it.
use Rattle.std.proofs.Common.{◌≡◌, ℕ, ◌+◌, ◌≤◌, Bool, true, false, cond, not, ◌&&◌, ◌||◌, eqb, List, [], ◌∷◌, ◌++◌, filter, Option, Some, None, is_none, is_some, find, true≢false, refl, sym, ap, ◌∙◌, arith, append-nil, sum_by, subst, eqb-true}
use Rattle.std.proofs.lemmas.List.Sums.{sum_by-cons, sum_by_push}
use Rattle.std.proofs.lemmas.List.Filters.{sum_by-filter_both}
use Rattle.std.specs.List.{AllByRecursion, list_any}
use Rattle.std.specs.Option.{option_and_then}
use Rattle.zre_values.specs.declared.peer_id.PeerId.{PeerId}
use Rattle.zre_outside.specs.declared.entry.Entry.{Entry}
use Rattle.zre_outside.specs.declared.entry.Input.{Input}
use Rattle.zre_outside.specs.declared.entry.Input.TheVariants as input
use Rattle.zre_zmtp.specs.Stream.{cut}
use Rattle.zre_zmtp.specs.Stream as stream
use Rattle.zre_mailbox.specs.Conn.{conn_after, held_of}
use Rattle.zre_link.specs.Heard.{heard_after, held_of as held_of_replies}
use Rattle.zre_values.specs.declared.settings.Settings.{Settings as Config}
use Rattle.zre_journal.specs.Chronicle.{Mark, Comes, Opens, Starts, Ignores, Closes, IsShut, ClosesAtStop, Born, Ends, after, ever}
use Rattle.zre_peer.specs.declared.causes.Cause.{Cause}
use Rattle.zre_peer.specs.declared.causes.IgnoreWhy.{IgnoreWhy}
use Rattle.zre_msg.specs.declared.message.Message.{Message}
use Rattle.zre_journal.specs.Heard.{bytes, piece_of, was_opened}
use Rattle.zre_journal.specs.Connections.{open_ones, is_open, is_ignored, was_used, runs, started, refuses, has_ended}
use Rattle.zre_journal.specs.Held.{conn_kept, replies_kept, kept}
use Rattle.zre_journal.specs.Peers.{Life, life, lives}
use Rattle.zre_journal.specs.Links.{replies, reply_of, is_linked}
use Rattle.zre_journal.specs.Happens.{at_input}
use Rattle.zre_journal.specs.Proper.{IsProper, Apart}
use Rattle.zre_journal.proofs.NumberedLists.{eqb-comm}
use Rattle.zre_journal.proofs.WhenMarksCome.{step, Each}
use Rattle.zre_journal.proofs.EachMarkOfEntries.{Ground, Brought}
use Rattle.zre_journal.proofs.MarksOfEntries.{all_brought, ground}
use Rattle.zre_journal.proofs.SaidOnConnections.{outcome}

-- ---- nothing has come

no_octets : (own : PeerId) → held_of (conn_after own []) ≡ 0
unfolding cut stream.greeting_fault
no_octets own = refl

no_replies : held_of_replies (heard_after []) ≡ 0
unfolding cut stream.greeting_fault
no_replies = refl

-- ---- sums

filter_lowers : {A : Type 0} (f : A → ℕ) (t : A → Bool) (xs : List A) → sum_by f (filter t xs) ≤ sum_by f xs
filter_lowers f t xs = omega (arith, sum_by-filter_both t (λ x. not (t x)) (λ x. refl) f xs)

each_lowers : {A : Type 0} (f h : A → ℕ) → ((x : A) → f x ≤ h x) → (xs : List A) → sum_by f xs ≤ sum_by h xs
each_lowers f h less [] = omega arith
each_lowers f h less (x ∷ xs) = omega (arith, less x, each_lowers f h less xs, sum_by-cons f x xs, sum_by-cons h x xs)

-- ---- marks

at_most : (i : Bool) (n : ℕ) → cond i 0 n ≤ n
at_most true n = omega arith
at_most false n = omega arith

-- who was ignored stays so
still_ignored : (i j : Bool) (n : ℕ) → (i ≡ true → j ≡ true) → cond j 0 n ≤ cond i 0 n
still_ignored true j n f = let all : j ≡ true = f refl in rw all (omega arith)
still_ignored false true n f = omega arith
still_ignored false false n f = omega arith

module _ (g : Config) (H : List Mark) (q : IsProper H) where
  -- no run, no more than before
  idle_more : (a b u v : Bool) → (a ≡ true → b ≡ true) → (u ≡ true → v ≡ true) → (a && u) ≡ true → (b && v) ≡ true
  idle_more true b true v f k e = let x : b ≡ true = f refl in let y : v ≡ true = k refl in rw (x, y) refl
  idle_more true b false v f k e = cc
  idle_more false b u v f k e = cc

  ends_lower : (l : ℕ) (why : Cause) (c : ℕ) → conn_kept g (Ends l why ∷ H) c ≤ conn_kept g H c
  ends_lower l why c = still_ignored (is_ignored c H) (is_ignored c (Ends l why ∷ H)) (held_of (conn_after g.id (bytes c H)))
      (idle_more (is_none (runs c H)) (is_none (runs c (Ends l why ∷ H))) (was_used c H) (was_used c H) (gone (started c H)) (λ e. e))
    where
      past : (k : ℕ) (a b : Bool) → is_none (cond b None (Some k)) ≡ true → is_none (cond (cond a true b) None (Some k)) ≡ true
      past k true b e = refl
      past k false b e = e

      gone : (s : Option ℕ) → is_none (option_and_then (λ k. cond (has_ended k H) None (Some k)) s) ≡ true → is_none (option_and_then (λ k. cond (has_ended k (Ends l why ∷ H)) None (Some k)) s) ≡ true
      gone None e = refl
      gone (Some k) e = past k (eqb k l) (has_ended k H) e

  ignores_lower : (d : ℕ) (why : IgnoreWhy) (c : ℕ) → conn_kept g (Ignores d why ∷ H) c ≤ conn_kept g H c
  ignores_lower d why c = still_ignored (is_ignored c H) (is_ignored c (Ignores d why ∷ H)) (held_of (conn_after g.id (bytes c H)))
      (idle_more (is_none (runs c H)) (is_none (runs c H)) (was_used c H) (was_used c (Ignores d why ∷ H)) (λ e. e) (used (eqb c d) (ever (refuses c) H) (is_some (started c H))))
    where
      used : (a b s : Bool) → (b || s) ≡ true → (cond a true b || s) ≡ true
      used true b s e = refl
      used false b s e = e

  starts_lower : (d l : ℕ) (m : Message) → started d H ≡ None → ever (refuses d) H ≡ false → (c : ℕ) → conn_kept g (Starts d l m ∷ H) c ≤ conn_kept g H c
  starts_lower d l m idle heard c = by (eqb c d) refl
    where
      unused : c ≡ d → is_ignored c H ≡ false
      unused e =
          let x : started c H ≡ None = ap (λ x. started x H) e ∙ idle in
          let y : ever (refuses c) H ≡ false = ap (λ x. ever (refuses x) H) e ∙ heard in
          rw (x, y) refl

      by : (b : Bool) → eqb c d ≡ b → conn_kept g (Starts d l m ∷ H) c ≤ conn_kept g H c
      by true e = let o = unused (eqb-true c d e) in still_ignored (is_ignored c H) (is_ignored c (Starts d l m ∷ H)) (held_of (conn_after g.id (bytes c H))) (λ i. absurd (true≢false (sym i ∙ o)))
      by false e = rw e (omega arith)

  same_conns : (f : ℕ → ℕ) → ((c : ℕ) → f c ≤ conn_kept g H c) → sum_by f (open_ones H) + sum_by (replies_kept g H) (lives H) ≤ kept g H
  same_conns f less = omega (arith, each_lowers f (conn_kept g H) less (open_ones H))

  pub mark_lowers : (w : Ground) (t : Bool) (h : Mark) → Brought g w t h H → kept g (h ∷ H) ≤ kept g H
  mark_lowers w t (Comes e) b = absurd b.1
  mark_lowers w t (Opens c) b =
      let none : bytes c H ≡ [] = (q.opening.unheard c b.0.is_fresh).no_octets in
      let empty : held_of (conn_after g.id (bytes c H)) ≡ 0 = ap (λ o. held_of (conn_after g.id o)) none ∙ no_octets g.id in
      let nothing : conn_kept g H c ≤ held_of (conn_after g.id (bytes c H)) = at_most (is_ignored c H) (held_of (conn_after g.id (bytes c H))) in
      omega (arith, sum_by_push (conn_kept g H) (open_ones H) c, nothing, empty)
  mark_lowers w t (Starts c l m) b = same_conns (conn_kept g (Starts c l m ∷ H)) (starts_lower c l m b.0.idle b.1.1)
  mark_lowers w t (Ignores c why) b = same_conns (conn_kept g (Ignores c why ∷ H)) (ignores_lower c why)
  mark_lowers w t (Closes c why) b = omega (arith, filter_lowers (conn_kept g H) (λ d. not (eqb c d)) (open_ones H))
  mark_lowers w t (IsShut c) b = omega (arith, filter_lowers (conn_kept g H) (λ d. not (eqb c d)) (open_ones H))
  mark_lowers w t (ClosesAtStop c) b = omega (arith, filter_lowers (conn_kept g H) (λ d. not (eqb c d)) (open_ones H))
  mark_lowers w t (Born l p to) b =
      let none : replies l H ≡ [] = (q.living.fresh l (omega (arith, b.0.next_link))).no_reply in
      let nothing : held_of_replies (heard_after (replies l H)) ≡ 0 = ap (λ o. held_of_replies (heard_after o)) none ∙ no_replies in
      omega (arith, sum_by_push (replies_kept g H) (lives H) (record { link = l; id = p; endpoint = to }), nothing)
  mark_lowers w t (Ends l why) b =
      omega (arith, each_lowers (conn_kept g (Ends l why ∷ H)) (conn_kept g H) (ends_lower l why) (open_ones H), filter_lowers (replies_kept g H) (λ (v : Life). not (eqb l v.link)) (lives H))
  mark_lowers w t _ b = omega arith

-- ---- entries

module _ (g : Config) (w : Ground) (t : Bool) where
  marks_lower : (hs H : List Mark) → IsProper H → Each (Brought g w t) hs H → kept g (after hs H) ≤ kept g H
  marks_lower [] H q b = omega arith
  marks_lower (h ∷ hs) H q b = omega (arith, mark_lowers g H q w t h b.0, marks_lower hs (h ∷ H) (step h H q b.0.0) b.1)

-- what comes about at an entry
pub input_lowers : (g : Config) (i : Input) (H K : List Mark) → IsProper K → kept g (after (at_input g i H K) K) ≤ kept g K
input_lowers g i H K q = marks_lower g (ground i) true (at_input g i H K) K q (all_brought (outcome g i H K q))

-- ---- octets that come

-- at one of these, which are apart, there is another number
module _ {A : Type 0} (key : A → ℕ) (f h : A → ℕ) (n : ℕ) (same : (x : A) → eqb n (key x) ≡ false → f x ≡ h x) where
  sum_same : (xs : List A) → AllByRecursion (λ y. eqb n (key y) ≡ false) xs → sum_by f xs ≡ sum_by h xs
  sum_same [] far = refl
  sum_same (x ∷ xs) far = omega (arith, same x far.0, sum_same xs far.1, sum_by-cons f x xs, sum_by-cons h x xs)

  -- one is there, and the others are as they were
  sum_but : (xs : List A) → Apart key xs → (x : A) → find (λ y. eqb n (key y)) xs ≡ Some x → sum_by f xs + h x ≡ sum_by h xs + f x
  sum_but [] apart x found = cc
  sum_but (y ∷ ys) apart x found = by (sum_but ys apart.1 x) (eqb n (key y)) refl found
    where
      far : key y ≡ n → (zs : List A) → AllByRecursion (λ z. eqb (key y) (key z) ≡ false) zs → AllByRecursion (λ z. eqb n (key z) ≡ false) zs
      far e zs a = subst (λ k. AllByRecursion (λ z. eqb k (key z) ≡ false) zs) e a

      by : (find (λ z. eqb n (key z)) ys ≡ Some x → sum_by f ys + h x ≡ sum_by h ys + f x) → (b : Bool) → eqb n (key y) ≡ b → cond b (Some y) (find (λ z. eqb n (key z)) ys) ≡ Some x
          → sum_by f (y ∷ ys) + h x ≡ sum_by h (y ∷ ys) + f x
      by r true e z =
          let here : y ≡ x = cc in
          let others : sum_by f ys ≡ sum_by h ys = sum_same ys (far (sym (eqb-true n (key y) e)) ys apart.0) in
          let fx : f y ≡ f x = ap f here in
          let hx : h y ≡ h x = ap h here in
          omega (arith, others, fx, hx, sum_by-cons f y ys, sum_by-cons h y ys)
      by r false e z = omega (arith, same y e, r z, sum_by-cons f y ys, sum_by-cons h y ys)

  -- none is there
  sum_none : (xs : List A) → find (λ y. eqb n (key y)) xs ≡ None → sum_by f xs ≡ sum_by h xs
  sum_none [] none = refl
  sum_none (y ∷ ys) none = by (sum_none ys) (eqb n (key y)) refl none
    where
      by : (find (λ z. eqb n (key z)) ys ≡ None → sum_by f ys ≡ sum_by h ys) → (b : Bool) → eqb n (key y) ≡ b → cond b (Some y) (find (λ z. eqb n (key z)) ys) ≡ None → sum_by f (y ∷ ys) ≡ sum_by h (y ∷ ys)
      by r true e z = cc
      by r false e z = omega (arith, same y e, r z, sum_by-cons f y ys, sum_by-cons h y ys)

module _ (g : Config) (H : List Mark) (q : IsProper H) where
  -- an entry that is no piece leaves what connections keep, and one that is no reply what links keep
  conns_same : (e : Entry) → ((c : ℕ) → piece_of c e.input ≡ []) → (c : ℕ) → conn_kept g (Comes e ∷ H) c ≡ conn_kept g H c
  conns_same e none c = ap (λ o. cond (is_ignored c H) 0 (held_of (conn_after g.id o))) (unheard (was_opened c H))
    where
      unheard : (b : Bool) → bytes c H ++ cond b (piece_of c e.input) [] ≡ bytes c H
      unheard true = rw (none c) (append-nil (bytes c H))
      unheard false = append-nil (bytes c H)

  links_same : (e : Entry) → ((l : ℕ) → reply_of l e.input ≡ []) → (v : Life) → replies_kept g (Comes e ∷ H) v ≡ replies_kept g H v
  links_same e none v = ap (λ o. held_of_replies (heard_after o)) (unheard (is_linked v.link H))
    where
      unheard : (b : Bool) → replies v.link H ++ cond b (reply_of v.link e.input) [] ≡ replies v.link H
      unheard true = rw (none v.link) (append-nil (replies v.link H))
      unheard false = append-nil (replies v.link H)

  all_same : {A : Type 0} (f h : A → ℕ) → ((x : A) → f x ≡ h x) → (xs : List A) → sum_by f xs ≡ sum_by h xs
  all_same f h same [] = refl
  all_same f h same (x ∷ xs) = omega (arith, same x, all_same f h same xs, sum_by-cons f x xs, sum_by-cons h x xs)

  pub quiet_keeps : (e : Entry) → ((c : ℕ) → piece_of c e.input ≡ []) → ((l : ℕ) → reply_of l e.input ≡ []) → kept g (Comes e ∷ H) ≡ kept g H
  quiet_keeps e no_piece no_reply =
      omega (arith, all_same (conn_kept g (Comes e ∷ H)) (conn_kept g H) (conns_same e no_piece) (open_ones H), all_same (replies_kept g (Comes e ∷ H)) (replies_kept g H) (links_same e no_reply) (lives H))

  -- ---- a piece

  found_self : (c : ℕ) (cs : List ℕ) → list_any (eqb c) cs ≡ true → find (λ d. eqb c d) cs ≡ Some c
  found_self c [] e = cc
  found_self c (d ∷ ds) e = by (found_self c ds) (eqb c d) refl e
    where
      by : (list_any (eqb c) ds ≡ true → find (λ x. eqb c x) ds ≡ Some c) → (b : Bool) → eqb c d ≡ b → (b || list_any (eqb c) ds) ≡ true → cond b (Some d) (find (λ x. eqb c x) ds) ≡ Some c
      by r true s z = ap (λ x. Some x) (sym (eqb-true c d s))
      by r false s z = r z

  none_self : (c : ℕ) (cs : List ℕ) → list_any (eqb c) cs ≡ false → find (λ d. eqb c d) cs ≡ None
  none_self c [] e = refl
  none_self c (d ∷ ds) e = by (none_self c ds) (eqb c d) e
    where
      by : (list_any (eqb c) ds ≡ false → find (λ x. eqb c x) ds ≡ None) → (b : Bool) → (b || list_any (eqb c) ds) ≡ false → cond b (Some d) (find (λ x. eqb c x) ds) ≡ None
      by r true z = cc
      by r false z = r z

  module _ (e : Entry) (n : ℕ) (o : List ℕ) (is : e.input ≡ input.Piece n o) where
    other_conn : (c : ℕ) → eqb n c ≡ false → conn_kept g (Comes e ∷ H) c ≡ conn_kept g H c
    other_conn c far = ap (λ p. cond (is_ignored c H) 0 (held_of (conn_after g.id p))) (unheard (was_opened c H))
      where
        nothing : piece_of c e.input ≡ []
        nothing = ap (piece_of c) is ∙ ap (λ b. cond b o []) (eqb-comm c n ∙ far)

        unheard : (b : Bool) → bytes c H ++ cond b (piece_of c e.input) [] ≡ bytes c H
        unheard true = rw nothing (append-nil (bytes c H))
        unheard false = append-nil (bytes c H)

    no_reply : (l : ℕ) → reply_of l e.input ≡ []
    no_reply l = ap (reply_of l) is

    same_links : sum_by (replies_kept g (Comes e ∷ H)) (lives H) ≡ sum_by (replies_kept g H) (lives H)
    same_links = all_same (replies_kept g (Comes e ∷ H)) (replies_kept g H) (links_same e no_reply) (lives H)

    -- on an open connection
    pub piece_moves : is_open n H ≡ true → kept g (Comes e ∷ H) + conn_kept g H n ≡ kept g H + conn_kept g (Comes e ∷ H) n
    piece_moves there =
        omega (arith, same_links, sum_but (λ (c : ℕ). c) (conn_kept g (Comes e ∷ H)) (conn_kept g H) n other_conn (open_ones H) q.opening.open_apart n (found_self n (open_ones H) there))

    pub piece_lost : is_open n H ≡ false → kept g (Comes e ∷ H) ≡ kept g H
    piece_lost gone = omega (arith, same_links, sum_none (λ (c : ℕ). c) (conn_kept g (Comes e ∷ H)) (conn_kept g H) n other_conn (open_ones H) (none_self n (open_ones H) gone))

    one_of : (c : ℕ) (cs : List ℕ) → list_any (eqb c) cs ≡ true → conn_kept g H c ≤ sum_by (conn_kept g H) cs
    one_of c [] there = cc
    one_of c (d ∷ ds) there = by (one_of c ds) (eqb c d) refl there
      where
        by : (list_any (eqb c) ds ≡ true → conn_kept g H c ≤ sum_by (conn_kept g H) ds) → (b : Bool) → eqb c d ≡ b → (b || list_any (eqb c) ds) ≡ true → conn_kept g H c ≤ sum_by (conn_kept g H) (d ∷ ds)
        by r true s z = let here : conn_kept g H c ≡ conn_kept g H d = ap (conn_kept g H) (eqb-true c d s) in omega (arith, here, sum_by-cons (conn_kept g H) d ds)
        by r false s z = omega (arith, r z, sum_by-cons (conn_kept g H) d ds)

    pub piece_part : is_open n H ≡ true → conn_kept g H n ≤ kept g H
    piece_part there = omega (arith, one_of n (open_ones H) there)

  -- ---- a reply

  module _ (e : Entry) (n : ℕ) (o : List ℕ) (is : e.input ≡ input.Reply n o) where
    other_link : (v : Life) → eqb n v.link ≡ false → replies_kept g (Comes e ∷ H) v ≡ replies_kept g H v
    other_link v far = ap (λ p. held_of_replies (heard_after p)) (unheard (is_linked v.link H))
      where
        nothing : reply_of v.link e.input ≡ []
        nothing = ap (reply_of v.link) is ∙ ap (λ b. cond b o []) (eqb-comm v.link n ∙ far)

        unheard : (b : Bool) → replies v.link H ++ cond b (reply_of v.link e.input) [] ≡ replies v.link H
        unheard true = rw nothing (append-nil (replies v.link H))
        unheard false = append-nil (replies v.link H)

    no_piece : (c : ℕ) → piece_of c e.input ≡ []
    no_piece c = ap (piece_of c) is

    same_conns_all : sum_by (conn_kept g (Comes e ∷ H)) (open_ones H) ≡ sum_by (conn_kept g H) (open_ones H)
    same_conns_all = all_same (conn_kept g (Comes e ∷ H)) (conn_kept g H) (conns_same e no_piece) (open_ones H)

    -- on the link of a known peer
    pub reply_moves : (v : Life) → life n H ≡ Some v → kept g (Comes e ∷ H) + replies_kept g H v ≡ kept g H + replies_kept g (Comes e ∷ H) v
    reply_moves v known = omega (arith, same_conns_all, sum_but (λ (u : Life). u.link) (replies_kept g (Comes e ∷ H)) (replies_kept g H) n other_link (lives H) q.living.apart v known)

    pub reply_lost : life n H ≡ None → kept g (Comes e ∷ H) ≡ kept g H
    reply_lost unknown = omega (arith, same_conns_all, sum_none (λ (u : Life). u.link) (replies_kept g (Comes e ∷ H)) (replies_kept g H) n other_link (lives H) unknown)

    one_link : (v : Life) (vs : List Life) → find (λ (u : Life). eqb n u.link) vs ≡ Some v → replies_kept g H v ≤ sum_by (replies_kept g H) vs
    one_link v [] f = cc
    one_link v (u ∷ us) f = by (one_link v us) (eqb n u.link) f
      where
        by : (find (λ (w : Life). eqb n w.link) us ≡ Some v → replies_kept g H v ≤ sum_by (replies_kept g H) us) → (b : Bool) → cond b (Some u) (find (λ (w : Life). eqb n w.link) us) ≡ Some v → replies_kept g H v ≤ sum_by (replies_kept g H) (u ∷ us)
        by r true z = let same : u ≡ v = cc in let here : replies_kept g H u ≡ replies_kept g H v = ap (replies_kept g H) same in omega (arith, here, sum_by-cons (replies_kept g H) u us)
        by r false z = omega (arith, r z, sum_by-cons (replies_kept g H) u us)

    pub reply_part : (v : Life) → life n H ≡ Some v → replies_kept g H v ≤ kept g H
    reply_part v known = omega (arith, one_link v (lives H) known)
