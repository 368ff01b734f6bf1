-- What events tell of the runs of peers is what was said in them.
use Rattle.std.proofs.Common.{◌≡◌, ℕ, ◌+◌, Bool, true, false, cond, eqb, List, [], ◌∷◌, ◌++◌, map, filter, Option, Some, None, refl, sym, ap, ◌∙◌, subst, arith, eqb-true, eq-eqb, append-nil, true≢false, bytes_eq}
use Rattle.std.proofs.lemmas.Cmp.{nat_list_eq_equiv}
use Rattle.std.proofs.lemmas.List.Concat.{flat_map-cons, flat_map-append}
use Rattle.std.proofs.lemmas.List.Elements.{filter-append}
use Rattle.std.proofs.lemmas.List.Sums.{fold-append}
use Rattle.std.specs.List.{AllByRecursion}
use Rattle.std.specs.Option.{option_or}
use Rattle.zre_values.specs.declared.peer_id.PeerId.{PeerId}
use Rattle.zre_values.specs.declared.endpoint.Endpoint.{Endpoint}
use Rattle.zre_msg.specs.declared.message.Body.{Body}
use Rattle.zre_msg.specs.declared.message.Body.TheVariants as body
use Rattle.zre_msg.specs.declared.message.Message.{Message}
use Rattle.zre_outside.specs.declared.entry.Entry.{Entry}
use Rattle.zre_peer.specs.Members.{distinct}
use Rattle.zre_peer.specs.Runs.{events_of, is_hello}
use Rattle.zre_peer.specs.declared.causes.Cause.{Cause}
use Rattle.zre_peer.specs.declared.view.View.{View}
use Rattle.zre_peer.specs.declared.event.Event.{Event}
use Rattle.zre_peer.specs.declared.event.Event.TheVariants as event
use Rattle.zre_values.specs.declared.settings.Settings.{Settings as Config}
use Rattle.zre_journal.specs.Chronicle.{Mark, TurnsAway, Starts, Counts, Ignores, Closes, Born, Ends, IsEvasive, Refuses, Stops, each, followed}
use Rattle.zre_journal.specs.Connections.{is_same}
use Rattle.zre_journal.specs.Peers.{Life, lives, life, births, runner, is_entered, counted, view}
use Rattle.zre_journal.specs.Told.{told_in, told_at, by_message, exit, becoming_evasive}
use Rattle.zre_journal.specs.Events.{events, chronicle}
use Rattle.zre_journal.specs.Proper.{IsProper}
use Rattle.zre_journal.proofs.ProperChronicles.{always}
use Rattle.zre_journal.proofs.WithinCounts.{AreNamed, named_more, at_end, AtEnd, Front, Back, another, ids_apart}
use Rattle.zre_journal.proofs.ProperPeers.{known_lives, run_known, run_is}
use Rattle.zre_journal.proofs.KnownPeers.{same_id, life_stays}
use Rattle.zre_journal.proofs.NumberedLists.{some_is, eqb-comm}
use Rattle.zre_journal.proofs.WhenMarksCome.{May, step}
use Rattle.zre_journal.proofs.EventsInTurn.{events_are, first_is_hello}
use Rattle.zre_audit.specs.Coding.{octets_of, code}
use Rattle.zre_audit.specs.Exchanged.{is_said, said, bodies_of, peer_on, run_at, runs_of, heard}
use Rattle.zre_audit.specs.Told.{at_last, runs_with, runs_after}

-- ---- lists

-- none of these is l
abbrev pub Lacks : ℕ → List ℕ → Type 0
Lacks l ks = AllByRecursion (λ k. eqb l k ≡ false) ks

pub lacks-last : (l k : ℕ) (ks : List ℕ) → Lacks l ks → eqb l k ≡ false → Lacks l (ks ++ k ∷ [])
lacks-last l k [] a e = (e, tt)
lacks-last l k (j ∷ ks) a e = (a.0, lacks-last l k ks a.1 e)

-- those that pass a test that l doesn't
lacks-kept : (l : ℕ) (t : ℕ → Bool) (ks : List ℕ) → t l ≡ false → Lacks l (filter t ks)
lacks-kept l t [] e = tt
lacks-kept l t (k ∷ ks) e = by (lacks-kept l t ks e) (t k) refl
  where
    by : Lacks l (filter t ks) → (b : Bool) → t k ≡ b → Lacks l (cond b (k ∷ filter t ks) (filter t ks))
    by r true q = (off (eqb l k) refl, r)
      where
        off : (b : Bool) → eqb l k ≡ b → b ≡ false
        off false s = refl
        off true s = absurd (true≢false (sym q ∙ ap t (sym (eqb-true l k s)) ∙ e))
    by r false q = r

lacks-some : (l : ℕ) (t : ℕ → Bool) (ks : List ℕ) → Lacks l ks → Lacks l (filter t ks)
lacks-some l t [] a = tt
lacks-some l t (k ∷ ks) a = by (t k) (lacks-some l t ks a.1)
  where
    by : (b : Bool) → Lacks l (filter t ks) → Lacks l (cond b (k ∷ filter t ks) (filter t ks))
    by true r = (a.0, r)
    by false r = r

-- two tests that agree on all but l keep the same of what lacks it
pub same-kept : (l : ℕ) (s t : ℕ → Bool) → ((k : ℕ) → eqb l k ≡ false → s k ≡ t k) → (ks : List ℕ) → Lacks l ks → filter s ks ≡ filter t ks
same-kept l s t f [] a = refl
same-kept l s t f (k ∷ ks) a = λ i. cond (f k a.0 i) (k ∷ same-kept l s t f ks a.1 i) (same-kept l s t f ks a.1 i)

same-map : {A : Type 0} (l : ℕ) (f g : ℕ → A) → ((k : ℕ) → eqb l k ≡ false → f k ≡ g k) → (ks : List ℕ) → Lacks l ks → map f ks ≡ map g ks
same-map l f g s [] a = refl
same-map l f g s (k ∷ ks) a = λ i. s k a.0 i ∷ same-map l f g s ks a.1 i

pub map-last : {A B : Type 0} (f : A → B) (xs : List A) (x : A) → map f (xs ++ x ∷ []) ≡ map f xs ++ f x ∷ []
map-last f [] x = refl
map-last f (y ∷ xs) x = ap (λ ys. f y ∷ ys) (map-last f xs x)

last-more : (octets x : List ℕ) (xs : List (List ℕ)) → at_last octets (xs ++ x ∷ []) ≡ xs ++ (x ++ octets) ∷ []
last-more octets x [] = refl
last-more octets x (y ∷ []) = refl
last-more octets x (y ∷ z ∷ xs) = ap (λ zs. y ∷ zs) (last-more octets x (z ∷ xs))

last-none : (xs : List (List ℕ)) → at_last [] xs ≡ xs
last-none [] = refl
last-none (x ∷ []) = ap (λ y. y ∷ []) (append-nil x)
last-none (x ∷ y ∷ xs) = ap (λ zs. x ∷ zs) (last-none (y ∷ xs))

-- ---- octets

code-cons : (b : Body) (bs : List Body) → code (b ∷ bs) ≡ octets_of b ++ code bs
code-cons b bs = flat_map-cons octets_of b bs

pub code-said : (bs : List Body) → code (said bs) ≡ code bs
code-said [] = refl
code-said (b ∷ bs) = by b (code-said bs)
  where
    by : (b : Body) → code (said bs) ≡ code bs → code (cond (is_said b) (b ∷ said bs) (said bs)) ≡ code (b ∷ bs)
    by (body.Whisper content) r = code-cons (body.Whisper content) (said bs) ∙ ap (λ o. octets_of (body.Whisper content) ++ o) r ∙ sym (code-cons (body.Whisper content) bs)
    by (body.Shout group content) r = code-cons (body.Shout group content) (said bs) ∙ ap (λ o. octets_of (body.Shout group content) ++ o) r ∙ sym (code-cons (body.Shout group content) bs)
    by (body.Hello endpoint groups status name headers) r = r ∙ sym (code-cons (body.Hello endpoint groups status name headers) bs)
    by (body.Join group status) r = r ∙ sym (code-cons (body.Join group status) bs)
    by (body.Leave group status) r = r ∙ sym (code-cons (body.Leave group status) bs)
    by body.Ping r = r ∙ sym (code-cons body.Ping bs)
    by body.PingOk r = r ∙ sym (code-cons body.PingOk bs)
    by (body.Other number rest more) r = r ∙ sym (code-cons (body.Other number rest more) bs)

pub code-last : (bs : List Body) (b : Body) → code (bs ++ b ∷ []) ≡ code bs ++ octets_of b
code-last bs b = flat_map-append octets_of bs (b ∷ []) ∙ ap (λ o. code bs ++ o) (code-cons b [] ∙ append-nil (octets_of b))

-- what was said in the life on link l
abbrev told_on : ℕ → List Mark → List ℕ
told_on l H = code (bodies_of (counted l H))

abbrev pub rows : PeerId → List Mark → List (List ℕ)
rows p H = map (λ l. told_on l H) (runs_of p H)

-- ---- events

pub same_as : (p q : PeerId) → bytes_eq p.0 q.0 ≡ bytes_eq q.0 p.0
same_as p q = nat_list_eq_equiv.symm p.0 q.0

joins_tell : (p : List ℕ) (id : PeerId) (name : List ℕ) (gs : List (List ℕ)) (xs : List (List ℕ)) → runs_after p xs (map (λ g. event.Join id name g) gs) ≡ xs
joins_tell p id name [] xs = refl
joins_tell p id name (g ∷ gs) xs = joins_tell p id name gs xs

hello_tells : (p : List ℕ) (id : PeerId) (v : View) (b : Body) (xs : List (List ℕ)) → is_hello b ≡ true → runs_after p xs (events_of id v b) ≡ cond (bytes_eq id.0 p) (xs ++ [] ∷ []) xs
hello_tells p id v (body.Hello endpoint groups status name headers) xs h = joins_tell p id name (distinct groups) (cond (bytes_eq id.0 p) (xs ++ [] ∷ []) xs)
hello_tells p id v (body.Whisper content) xs h = absurd (true≢false (sym h))
hello_tells p id v (body.Shout group content) xs h = absurd (true≢false (sym h))
hello_tells p id v (body.Join group status) xs h = absurd (true≢false (sym h))
hello_tells p id v (body.Leave group status) xs h = absurd (true≢false (sym h))
hello_tells p id v body.Ping xs h = absurd (true≢false (sym h))
hello_tells p id v body.PingOk xs h = absurd (true≢false (sym h))
hello_tells p id v (body.Other number rest more) xs h = absurd (true≢false (sym h))

hello_says : (b : Body) → is_hello b ≡ true → octets_of b ≡ []
hello_says (body.Hello endpoint groups status name headers) h = refl
hello_says (body.Whisper content) h = absurd (true≢false (sym h))
hello_says (body.Shout group content) h = absurd (true≢false (sym h))
hello_says (body.Join group status) h = absurd (true≢false (sym h))
hello_says (body.Leave group status) h = absurd (true≢false (sym h))
hello_says body.Ping h = absurd (true≢false (sym h))
hello_says body.PingOk h = absurd (true≢false (sym h))
hello_says (body.Other number rest more) h = absurd (true≢false (sym h))

unsaid : (t : Bool) (xs : List (List ℕ)) → xs ≡ cond t (at_last [] xs) xs
unsaid true xs = sym (last-none xs)
unsaid false xs = refl

later_tells : (p : List ℕ) (id : PeerId) (v : View) (b : Body) (xs : List (List ℕ)) → is_hello b ≡ false → runs_after p xs (events_of id v b) ≡ cond (bytes_eq id.0 p) (at_last (octets_of b) xs) xs
later_tells p id v (body.Hello endpoint groups status name headers) xs h = absurd (true≢false h)
later_tells p id v (body.Whisper content) xs h = refl
later_tells p id v (body.Shout group content) xs h = refl
later_tells p id v (body.Join group status) xs h = unsaid (bytes_eq id.0 p) xs
later_tells p id v (body.Leave group status) xs h = unsaid (bytes_eq id.0 p) xs
later_tells p id v body.Ping xs h = unsaid (bytes_eq id.0 p) xs
later_tells p id v body.PingOk xs h = unsaid (bytes_eq id.0 p) xs
later_tells p id v (body.Other number rest more) xs h = unsaid (bytes_eq id.0 p) xs

-- ---- runs

-- a link whose peer hasn't run is none of those whose peers have
no_run : (l : ℕ) (H : List Mark) → runner l H ≡ None → Lacks l (each run_at H)
no_run l [] e = tt
no_run l (h ∷ H) e = by h e (λ z. no_run l H z)
  where
    starts : (c k : ℕ) (b : Bool) → eqb l k ≡ b → option_or (cond b (Some c) None) (runner l H) ≡ None → (runner l H ≡ None → Lacks l (each run_at H)) → Lacks l (each run_at H ++ k ∷ [])
    starts c k true q z r = absurd (let y : Some c ≡ None = z in cc)
    starts c k false q z r = lacks-last l k (each run_at H) (r z) q

    by : (h : Mark) → runner l (h ∷ H) ≡ None → (runner l H ≡ None → Lacks l (each run_at H)) → Lacks l (each run_at (h ∷ H))
    by (Starts c k m) z r = starts c k (eqb l k) refl z r
    by _ z r = r z

-- l is the last of these, and once
pub record IsLast (l : ℕ) (ks : List ℕ) : Type 0 where
  pub others : List ℕ
  pub parts : ks ≡ others ++ l ∷ []
  pub apart : Lacks l others

pub record IsTold (H : List Mark) : Type 0 where
  pub are_named : AreNamed H
  pub tells : (p : PeerId) → runs_after p.0 [] (told_in H) ≡ rows p H
  pub living : (l : ℕ) (v : Life) → life l H ≡ Some v → peer_on l H ≡ Some v.id
  pub last : (c l : ℕ) (v : Life) → life l H ≡ Some v → runner l H ≡ Some c → IsLast l (runs_of v.id H)

module _ (H : List Mark) (q : IsProper H) (o : IsTold H) where
  -- the runs of a peer that is known are of its own links
  of_other : (l : ℕ) (w : Life) (p : PeerId) → life l H ≡ Some w → bytes_eq p.0 w.id.0 ≡ false → Lacks l (runs_of p H)
  of_other l w p e n = lacks-kept l (λ k. is_same p (peer_on k H)) (each run_at H) (ap (is_same p) (o.living l w e) ∙ n)

  still : (p : PeerId) (es : List Event) (h : Mark) → told_at h H ≡ es → ((xs : List (List ℕ)) → runs_after p.0 xs es ≡ xs) → runs_after p.0 [] (told_in (h ∷ H)) ≡ rows p H
  still p es h e f = fold-append (runs_with p.0) [] (told_in H) (told_at h H) ∙ ap (λ fs. runs_after p.0 (runs_after p.0 [] (told_in H)) fs) e ∙ f (runs_after p.0 [] (told_in H)) ∙ o.tells p

  -- ---- a run begins

  module _ (c l : ℕ) (m : Message) (y : May (Starts c l m) H) where
    abbrev K : List Mark
    K = Starts c l m ∷ H

    fresh : Lacks l (each run_at H)
    fresh = no_run l H y.free

    start_runs : (p : PeerId) → runs_of p K ≡ runs_of p H ++ cond (bytes_eq p.0 y.who.id.0) (l ∷ []) []
    start_runs p =
        filter-append (λ k. is_same p (peer_on k H)) (each run_at H) (l ∷ [])
        ∙ ap (λ t. runs_of p H ++ cond t (l ∷ []) []) (ap (is_same p) (o.living l y.who y.known))

    start_before : (k : ℕ) → eqb l k ≡ false → told_on k K ≡ told_on k H
    start_before k n = ap (λ t. code (bodies_of (followed (counted k H) (cond t (Some m) None)))) (eqb-comm k l ∙ n)

    start_new : told_on l K ≡ []
    start_new =
        ap (λ t. code (bodies_of (followed (counted l H) (cond t (Some m) None)))) (eq-eqb l l refl)
        ∙ ap (λ ms. code (bodies_of (ms ++ m ∷ []))) (q.running.is_silent l y.free)
        ∙ code-cons m.body [] ∙ append-nil (octets_of m.body) ∙ hello_says m.body (first_is_hello m y.first)

    start_rows : (p : PeerId) (t : Bool) → bytes_eq p.0 y.who.id.0 ≡ t → rows p K ≡ cond t (rows p H ++ [] ∷ []) (rows p H)
    start_rows p t e = ap (map (λ k. told_on k K)) (start_runs p ∙ ap (λ s. runs_of p H ++ cond s (l ∷ []) []) e) ∙ by t
      where
        old : map (λ k. told_on k K) (runs_of p H) ≡ rows p H
        old = same-map l (λ k. told_on k K) (λ k. told_on k H) start_before (runs_of p H) (lacks-some l (λ k. is_same p (peer_on k H)) (each run_at H) fresh)

        by : (t : Bool) → map (λ k. told_on k K) (runs_of p H ++ cond t (l ∷ []) []) ≡ cond t (rows p H ++ [] ∷ []) (rows p H)
        by true = map-last (λ k. told_on k K) (runs_of p H) l ∙ (λ i. old i ++ start_new i ∷ [])
        by false = ap (map (λ k. told_on k K)) (append-nil (runs_of p H)) ∙ old

    start_tells : (p : PeerId) → runs_after p.0 [] (told_in K) ≡ rows p K
    start_tells p =
        fold-append (runs_with p.0) [] (told_in H) (told_at (Starts c l m) H)
        ∙ ap (λ xs. runs_after p.0 xs (by_message (life l H) m H)) (o.tells p)
        ∙ ap (λ w. runs_after p.0 (rows p H) (by_message w m H)) y.known
        ∙ hello_tells p.0 y.who.id (view y.who.link H) m.body (rows p H) (first_is_hello m y.first)
        ∙ ap (λ t. cond t (rows p H ++ [] ∷ []) (rows p H)) (same_as y.who.id p)
        ∙ sym (start_rows p (bytes_eq p.0 y.who.id.0) refl)

    start_last : (d k : ℕ) (v : Life) → life k K ≡ Some v → runner k K ≡ Some d → IsLast k (runs_of v.id K)
    start_last d k v e r = by (eqb k l) refl
      where
        by : (b : Bool) → eqb k l ≡ b → IsLast k (runs_of v.id K)
        by true s =
            let here : k ≡ l = eqb-true k l s in
            let z : Some v ≡ Some y.who = sym e ∙ ap (λ x. life x H) here ∙ y.known in
            let same : v ≡ y.who = cc in
            let yes_ : bytes_eq v.id.0 y.who.id.0 ≡ true = ap (λ (w : Life). bytes_eq w.id.0 y.who.id.0) same ∙ nat_list_eq_equiv.refl y.who.id.0 in
            record {
              others = runs_of v.id H;
              parts = start_runs v.id ∙ ap (λ t. runs_of v.id H ++ cond t (l ∷ []) []) yes_ ∙ ap (λ x. runs_of v.id H ++ x ∷ []) (sym here);
              apart = subst (λ x. Lacks x (runs_of v.id H)) (sym here) (lacks-some l (λ j. is_same v.id (peer_on j H)) (each run_at H) fresh);
            }
        by false s =
            let older : runner k H ≡ Some d = sym (ap (λ t. option_or (cond t (Some c) None) (runner k H)) s) ∙ r in
            let w = o.last d k v e older in
            let off : bytes_eq v.id.0 y.who.id.0 ≡ false = ids_apart H q o.are_named k l v y.who e y.known s in
            record {
              others = w.others;
              parts = start_runs v.id ∙ ap (λ t. runs_of v.id H ++ cond t (l ∷ []) []) off ∙ append-nil (runs_of v.id H) ∙ w.parts;
              apart = w.apart;
            }

  -- ---- a message is counted

  module _ (c l : ℕ) (m : Message) (y : May (Counts c l m) H) where
    abbrev L : List Mark
    L = Counts c l m ∷ H

    count_other : (k : ℕ) → eqb l k ≡ false → told_on k L ≡ told_on k H
    count_other k n = ap (λ t. code (bodies_of (followed (counted k H) (cond t (Some m) None)))) (eqb-comm k l ∙ n)

    count_here : told_on l L ≡ told_on l H ++ octets_of m.body
    count_here =
        ap (λ t. code (bodies_of (followed (counted l H) (cond t (Some m) None)))) (eq-eqb l l refl)
        ∙ ap code (map-last (λ (n : Message). n.body) (counted l H) m) ∙ code-last (bodies_of (counted l H)) m.body

    count_rows : (w : Life) → life l H ≡ Some w → (p : PeerId) (t : Bool) → bytes_eq p.0 w.id.0 ≡ t → rows p L ≡ cond t (at_last (octets_of m.body) (rows p H)) (rows p H)
    count_rows w f p false e = same-map l (λ k. told_on k L) (λ k. told_on k H) count_other (runs_of p H) (of_other l w p f e)
    count_rows w f p true e =
        let mine : w.id ≡ p = same_id p w.id e in
        let r = o.last c l w f (run_is H q c l y.running) in
        let parts : runs_of p H ≡ r.others ++ l ∷ [] = ap (λ i. runs_of i H) (sym mine) ∙ r.parts in
        let old = same-map l (λ k. told_on k L) (λ k. told_on k H) count_other r.others r.apart in
        ap (map (λ k. told_on k L)) parts ∙ map-last (λ k. told_on k L) r.others l
        ∙ (λ i. old i ++ count_here i ∷ [])
        ∙ sym (last-more (octets_of m.body) (told_on l H) (map (λ k. told_on k H) r.others))
        ∙ ap (at_last (octets_of m.body)) (sym (map-last (λ k. told_on k H) r.others l) ∙ ap (map (λ k. told_on k H)) (sym parts))

    count_tells : (p : PeerId) → runs_after p.0 [] (told_in L) ≡ rows p L
    count_tells p =
        let w = some_is (life l H) (run_known H q c l y.running) in
        fold-append (runs_with p.0) [] (told_in H) (told_at (Counts c l m) H)
        ∙ ap (λ xs. runs_after p.0 xs (by_message (life l H) m H)) (o.tells p)
        ∙ ap (λ u. runs_after p.0 (rows p H) (by_message u m H)) w.1
        ∙ later_tells p.0 w.0.id (view w.0.link H) m.body (rows p H) y.later
        ∙ ap (λ t. cond t (at_last (octets_of m.body) (rows p H)) (rows p H)) (same_as w.0.id p)
        ∙ sym (count_rows w.0 w.1 p (bytes_eq p.0 w.0.id.0) refl)

  -- ---- a peer is born

  module _ (n : ℕ) (i : PeerId) (a : Endpoint) (y : May (Born n i a) H) where
    abbrev M : List Mark
    M = Born n i a ∷ H

    unrun : runner n H ≡ None
    unrun = ap (λ x. runner x H) y.next_link ∙ (q.living.fresh (births H + 1) (omega arith)).no_run

    born_other : (k : ℕ) → eqb n k ≡ false → peer_on k M ≡ peer_on k H
    born_other k e = ap (λ t. option_or (cond t (Some i) None) (peer_on k H)) (eqb-comm k n ∙ e)

    born_runs : (p : PeerId) → runs_of p M ≡ runs_of p H
    born_runs p = same-kept n (λ k. is_same p (peer_on k M)) (λ k. is_same p (peer_on k H)) (λ k e. ap (is_same p) (born_other k e)) (each run_at H) (no_run n H unrun)

    born_tells : (p : PeerId) → runs_after p.0 [] (told_in M) ≡ rows p M
    born_tells p = still p [] (Born n i a) refl (λ xs. refl) ∙ ap (map (λ k. told_on k H)) (sym (born_runs p))

    low : (l : ℕ) (v : Life) → life l H ≡ Some v → eqb n l ≡ false
    low l v e = by (eqb n l) refl
      where
        by : (b : Bool) → eqb n l ≡ b → b ≡ false
        by false s = refl
        by true s = let here = eqb-true n l s in let within = (known_lives H q l v e).1 in absurd (omega (arith, here, within, y.next_link))

    born_living : (l : ℕ) (v : Life) → life l M ≡ Some v → peer_on l M ≡ Some v.id
    born_living l v e = by (at_end (λ (u : Life). eqb l u.link) (lives H) (record { link = n; id = i; endpoint = a }) v e)
      where
        by : AtEnd (λ (u : Life). eqb l u.link) (lives H) (record { link = n; id = i; endpoint = a }) v → peer_on l M ≡ Some v.id
        by (Front f) = born_other l (low l v f) ∙ o.living l v f
        by (Back f same s) = ap (λ t. option_or (cond t (Some i) None) (peer_on l H)) s ∙ ap (λ (u : Life). Some u.id) same

    born_last : (c l : ℕ) (v : Life) → life l M ≡ Some v → runner l M ≡ Some c → IsLast l (runs_of v.id M)
    born_last c l v e r = by (at_end (λ (u : Life). eqb l u.link) (lives H) (record { link = n; id = i; endpoint = a }) v e)
      where
        by : AtEnd (λ (u : Life). eqb l u.link) (lives H) (record { link = n; id = i; endpoint = a }) v → IsLast l (runs_of v.id M)
        by (Front f) = subst (IsLast l) (sym (born_runs v.id)) (o.last c l v f r)
        by (Back f same s) =
            let here : l ≡ n = eqb-true l n s in
            let z : Some c ≡ None = sym r ∙ ap (λ x. runner x H) here ∙ unrun in
            absurd cc

  -- ---- a peer ends

  module _ (n : ℕ) (why : Cause) (y : May (Ends n why) H) where
    before_end : (l : ℕ) (v : Life) → life l (Ends n why ∷ H) ≡ Some v → life l H ≡ Some v
    before_end l v e = sym (life_stays H n l why (another H n l why v (step (Ends n why) H q y) e)) ∙ e

    exit_tells : (p : List ℕ) (u : Option Life) (xs : List (List ℕ)) → runs_after p xs (exit u why H) ≡ xs
    exit_tells p None xs = refl
    exit_tells p (Some v) xs = by (is_entered H v)
      where
        by : (b : Bool) → runs_after p xs (cond b (event.Exit v.id (view v.link H).name why ∷ []) []) ≡ xs
        by true = refl
        by false = refl

  probe_tells : (p : List ℕ) (u : Option Life) (xs : List (List ℕ)) → runs_after p xs (becoming_evasive u H) ≡ xs
  probe_tells p None xs = refl
  probe_tells p (Some v) xs = refl

told_more : (h : Mark) (H : List Mark) → IsProper H → May h H → IsTold H → IsTold (h ∷ H)
told_more (Starts c l m) H q y o = record { are_named = o.are_named; tells = start_tells H q o c l m y; living = o.living; last = start_last H q o c l m y }
told_more (Counts c l m) H q y o = record { are_named = o.are_named; tells = count_tells H q o c l m y; living = o.living; last = o.last }
told_more (Born n i a) H q y o = record { are_named = named_more (Born n i a) H q y (step (Born n i a) H q y) o.are_named; tells = born_tells H q o n i a y; living = born_living H q o n i a y; last = born_last H q o n i a y }
told_more (Ends n why) H q y o = record {
  are_named = named_more (Ends n why) H q y (step (Ends n why) H q y) o.are_named;
  tells = λ p. still H q o p (exit (life n H) why H) (Ends n why) refl (exit_tells H q o n why y p.0 (life n H));
  living = λ l v e. o.living l v (before_end H q o n why y l v e);
  last = λ c l v e r. o.last c l v (before_end H q o n why y l v e) r;
}
told_more (IsEvasive n) H q y o = record { are_named = o.are_named; tells = λ p. still H q o p (becoming_evasive (life n H) H) (IsEvasive n) refl (probe_tells H q o p.0 (life n H)); living = o.living; last = o.last }
told_more (TurnsAway c) H q y o = record { are_named = o.are_named; tells = λ p. still H q o p (told_at (TurnsAway c) H) (TurnsAway c) refl (λ xs. refl); living = o.living; last = o.last }
told_more (Closes c why) H q y o = record { are_named = o.are_named; tells = λ p. still H q o p (told_at (Closes c why) H) (Closes c why) refl (λ xs. refl); living = o.living; last = o.last }
told_more (Ignores c why) H q y o = record { are_named = o.are_named; tells = λ p. still H q o p (told_at (Ignores c why) H) (Ignores c why) refl (λ xs. refl); living = o.living; last = o.last }
told_more (Refuses why) H q y o = record { are_named = o.are_named; tells = λ p. still H q o p (told_at (Refuses why) H) (Refuses why) refl (λ xs. refl); living = o.living; last = o.last }
told_more Stops H q y o = record { are_named = o.are_named; tells = λ p. still H q o p (told_at Stops H) Stops refl (λ xs. refl); living = o.living; last = o.last }
told_more _ H q y o = record { are_named = o.are_named; tells = λ p. fold-append (runs_with p.0) [] (told_in H) [] ∙ o.tells p; living = o.living; last = o.last }

pub is_told : (g : Config) (journal : List Entry) → IsTold (chronicle g journal)
is_told g journal = always g IsTold told_more (record { are_named = λ l v e. absurd cc; tells = λ p. refl; living = λ l v e. absurd cc; last = λ c l v e r. absurd cc }) journal

-- what events tell of the runs of a peer is what was heard of it
pub hears : (g : Config) (journal : List Entry) (p : PeerId) → runs_after p.0 [] (events g journal) ≡ map code (heard p (chronicle g journal))
hears g journal p = ap (runs_after p.0 []) (sym (events_are g journal)) ∙ (is_told g journal).tells p ∙ all (runs_of p (chronicle g journal))
  where
    all : (ks : List ℕ) → map (λ l. told_on l (chronicle g journal)) ks ≡ map code (map (λ l. said (bodies_of (counted l (chronicle g journal)))) ks)
    all [] = refl
    all (k ∷ ks) = λ i. sym (code-said (bodies_of (counted k (chronicle g journal)))) i ∷ all ks i

-- the peer that is known on a link was born on it
pub known_by : (g : Config) (journal : List Entry) (l : ℕ) (v : Life) → life l (chronicle g journal) ≡ Some v → peer_on l (chronicle g journal) ≡ Some v.id
known_by g journal = (is_told g journal).living
