-- What comes on a connection leaves alone every peer but its own.
use Rattle.std.proofs.Common.{◌≡◌, ℕ, ◌+◌, Bool, true, false, cond, not, ◌&&◌, eqb, ltb, List, [], ◌∷◌, ◌++◌, length, Option, Some, None, refl, sym, ap, ◌∙◌, subst, arith, eq-eqb, eqb-true, ne_eqb, append-nil}
use Rattle.std.proofs.lemmas.Bool.{and_parts}
use Rattle.std.specs.List.{AllByRecursion}
use Rattle.std.specs.Str.{bytes_eq}
use Rattle.zre_values.specs.declared.limits.TheConstants.{PEERS, CONNECTIONS, UNSENT_OCTETS}
use Rattle.zre_values.specs.declared.peer_id.PeerId.{PeerId}
use Rattle.zre_values.specs.declared.endpoint.Endpoint.{Endpoint}
use Rattle.zre_values.specs.Endpoint.{endpoint_in}
use Rattle.zre_values.proofs.Digits.{bytes_eq-same}
use Rattle.zre_mailbox.specs.declared.arrival.Arrival.TheVariants as arrival
use Rattle.zre_mailbox.specs.Talk.{Said, Arrived, Fault}
use Rattle.zre_msg.specs.declared.message.Body.{Body}
use Rattle.zre_msg.specs.declared.message.Body.TheVariants as body
use Rattle.zre_msg.specs.declared.message.Message.{Message}
use Rattle.zre_link.specs.Text.{size_of}
use Rattle.zre_outside.specs.declared.entry.Entry.{Entry}
use Rattle.zre_outside.specs.declared.entry.Input.{Input}
use Rattle.zre_outside.specs.declared.entry.Input.TheVariants as input
use Rattle.zre_peer.specs.Runs.{is_hello, due}
use Rattle.zre_peer.specs.Views.{view_of, is_small}
use Rattle.zre_peer.specs.declared.causes.Cause.{Cause}
use Rattle.zre_peer.specs.declared.causes.Cause.TheVariants as cause
use Rattle.zre_values.specs.declared.settings.Settings.{Settings as Config}
use Rattle.zre_journal.specs.Arrivals.{end_of_run, taken_over, start_unknown, start, at_first, answer_to, at_later, at_message, at_ready, at_said, at_place, at_places}
use Rattle.zre_journal.specs.Chronicle.{Mark, Comes, Identifies, after}
use Rattle.zre_journal.specs.Connections.{open_ones, is_open, is_new, identity, runs, is_live, other_with, is_same}
use Rattle.zre_journal.specs.Events.{chronicle, events_at}
use Rattle.zre_journal.specs.Happens.{has_stopped, at_input, with_entry}
use Rattle.zre_journal.specs.Heard.{newly_completed}
use Rattle.zre_journal.specs.Isolation.{is_about, IsAsBefore, IsLeftAlone}
use Rattle.zre_journal.specs.Links.{line, is_linked, replies, unsent, taken}
use Rattle.zre_journal.specs.Peers.{Life, lives, life, life_of, births, counted}
use Rattle.zre_journal.specs.Proper.{IsProper}
use Rattle.zre_journal.specs.Pushes.{push}
use Rattle.zre_journal.specs.Told.{told}
use Rattle.zre_journal.proofs.MarksOfEntries.{all_brought}
use Rattle.zre_journal.proofs.EachMarkOfEntries.{Ground, allowed}
use Rattle.zre_journal.proofs.WithinCounts.{named}
use Rattle.zre_journal.proofs.StopsLeaveNothing.{no_peer}
use Rattle.zre_journal.proofs.JoinedEntries.{after-append, continues}
use Rattle.zre_journal.proofs.KnownPeers.{known_of, same_id, id_of}
use Rattle.zre_journal.proofs.NumberedLists.{All-join, found_passes}
use Rattle.zre_journal.proofs.SaidOnConnections.{place_outcome, input_allowed}
use Rattle.zre_journal.proofs.SaidWithinLimit.{MaySay, newly_fine}
use Rattle.zre_journal.proofs.ProperPeers.{known_lives, has_started, run_is}
use Rattle.zre_journal.proofs.WhenMarksCome.{May, Allowed, steps, both, choice}
use Rattle.zre_journal.proofs.SparedPeers.{IsOff, Spares, AreSpared, marks_left, lives_left, itself_marks, none_told, Asked, asked_with, asked, itself}
use Rattle.zre_journal.proofs.ProperChronicles.{comes_proper}
use Rattle.zre_journal.proofs.LaterMoments.{identity_on}

-- ---- who a connection is stays

pub identity_remains : (c : ℕ) (p : PeerId) (hs H : List Mark) → Allowed hs H → identity c H ≡ Some p → identity c (after hs H) ≡ Some p
identity_remains c p [] H a e = e
identity_remains c p (h ∷ hs) H a e = identity_remains c p hs (h ∷ H) a.1 (identity_on c p h H a.0 e)

-- ---- all that octets of a connection say

-- d has this identity, where it has one
abbrev pub IsOf : Option PeerId → ℕ → List Mark → Type 0
IsOf who d J = (r : PeerId) → identity d J ≡ Some r → who ≡ Some r

module _ (g : Config) (c : ℕ) (who : Option PeerId) where
  abbrev w : Ground
  w = record { of = λ d. true; stops = false }

  all_allowed : (xs : List Said) → AllByRecursion (MaySay g.id) xs → (X : List Mark) → IsProper X → Allowed (at_places g c xs X) X
  all_allowed [] t X x = tt
  all_allowed (y ∷ ys) t X x = let m = allowed g w true (at_place g c y X) X (all_brought (place_outcome g w c refl y t.0 X x)) in
      both May (at_place g c y X) (at_places g c ys (after (at_place g c y X) X)) X m (all_allowed ys t.1 (after (at_place g c y X) X) (steps (at_place g c y X) X x m))

  -- what is so of the marks of each place is so of all, where c has this identity at the end; P is so at each moment
  module _ (P : List Mark → Type 0) (Q : List Mark → List Mark → Type 0) (none : (J : List Mark) → Q [] J) (joined : (hs ks J : List Mark) → Q hs J → Q ks (after hs J) → Q (hs ++ ks) J)
      (kept : (hs J : List Mark) → Q hs J → P J → P (after hs J))
      (place : (J : List Mark) → IsProper J → P J → (one : Said) → IsOf who c J → IsOf who c (after (at_place g c one J) J) → Q (at_place g c one J) J) where
    pub each_place : (all : List Said) → AllByRecursion (MaySay g.id) all → (J : List Mark) → IsProper J → P J → IsOf who c (after (at_places g c all J) J) → Q (at_places g c all J) J
    each_place [] s J q is its = none J
    each_place (one ∷ all) s J q is its =
        let hs = at_place g c one J in
        let a = allowed g w true hs J (all_brought (place_outcome g w c refl one s.0 J q)) in
        let r = steps hs J q a in
        let rest = at_places g c all (after hs J) in
        let b = all_allowed all s.1 (after hs J) r in
        let its_then : IsOf who c (after hs J) = λ i z. its i (ap (identity c) (after-append hs rest J) ∙ identity_remains c i rest (after hs J) b z) in
        let here = place J q is one (λ i z. its_then i (identity_remains c i hs J a z)) its_then in
        joined hs rest J here (each_place all s.1 (after hs J) r (kept hs J here is) (λ i z. its i (ap (identity c) (after-append hs rest J) ∙ z)))

-- ---- the marks of a connection that isn't that of p

module _ (g : Config) (p : PeerId) (who : Option PeerId) (another : who ≡ Some p → ⊥) (o : Option Life) where
  other_of : (r : PeerId) → who ≡ Some r → bytes_eq p.0 r.0 ≡ false
  other_of r e = by (bytes_eq p.0 r.0) refl
    where
      by : (b : Bool) → bytes_eq p.0 r.0 ≡ b → b ≡ false
      by false z = refl
      by true z = absurd (another (e ∙ ap (λ (i : PeerId). Some i) (same_id p r z)))

  module _ (J : List Mark) (q : IsProper J) (is : life_of p J ≡ o) where
    -- what one of this identity runs is another peer
    off_run : (d k : ℕ) → IsOf who d J → runs d J ≡ Some k → IsOff o k
    off_run d k its run = by o is
      where
        by : (u : Option Life) → life_of p J ≡ u → IsOff u k
        by None z = tt
        by (Some v) z = at (eqb v.link k) refl
          where
            at : (b : Bool) → eqb v.link k ≡ b → b ≡ false
            at false y = refl
            at true y =
                let s = has_started J q d k run in
                let there : life k J ≡ Some v = ap (λ n. life n J) (sym (eqb-true v.link k y)) ∙ known_of J q p v z in
                absurd (another (its p (q.running.is_its_own d k v (run_is J q d k run) s.1 there ∙ ap (λ (i : PeerId). Some i) (id_of J p v z))))

    off_new : IsOff o (births J + 1)
    off_new = by o is
      where
        by : (u : Option Life) → life_of p J ≡ u → IsOff u (births J + 1)
        by None z = tt
        by (Some v) z = let low = (known_lives J q v.link v (known_of J q p v z)).1 in ne_eqb v.link (births J + 1) (λ y. omega (arith, y, low))

    off_known : (r : PeerId) (w : Life) → bytes_eq p.0 r.0 ≡ false → life_of r J ≡ Some w → IsOff o w.link
    off_known r w far e = by o is
      where
        by : (u : Option Life) → life_of p J ≡ u → IsOff u w.link
        by None z = tt
        by (Some v) z = at (eqb v.link w.link) refl
          where
            at : (b : Bool) → eqb v.link w.link ≡ b → b ≡ false
            at false y = refl
            at true y =
                let one : Some v ≡ Some w = sym (known_of J q p v z) ∙ ap (λ n. life n J) (eqb-true v.link w.link y) ∙ known_of J q r w e in
                let both : v ≡ w = cc in
                let ids : p ≡ r = sym (id_of J p v z) ∙ ap (λ (x : Life). x.id) both ∙ id_of J r w e in
                sym (bytes_eq-same p.0 r.0 (ap (λ (i : PeerId). i.0) ids)) ∙ far

    spared_run : (d : ℕ) (why : Cause) → IsOf who d J → AreSpared p o (end_of_run g (runs d J) why)
    spared_run d why its = by (runs d J) refl
      where
        by : (r : Option ℕ) → runs d J ≡ r → AreSpared p o (end_of_run g r why)
        by None e = tt
        by (Some k) e = (off_run d k its e, tt)

    spared_taken : (r : PeerId) (c : ℕ) → who ≡ Some r → AreSpared p o (taken_over g (other_with r c J) J)
    spared_taken r c mine = by (other_with r c J) refl
      where
        by : (u : Option ℕ) → other_with r c J ≡ u → AreSpared p o (taken_over g u J)
        by None e = tt
        by (Some d) e = All-join (Spares p o) (end_of_run g (runs d J) cause.Taken) _ (spared_run d cause.Taken its) (tt, tt)
          where
            alike : is_same r (identity d J) ≡ true
            alike = (and_parts (not (eqb c d)) (is_same r (identity d J)) (found_passes (λ x. not (eqb c x) && is_same r (identity x J)) (open_ones J) d e)).1

            its : IsOf who d J
            its i z = mine ∙ ap (λ (x : PeerId). Some x) (sym (same_id r i (sym (ap (is_same r) z) ∙ alike)))

    spared_push : (k : ℕ) (b : Body) (X : List Mark) → IsOff o k → AreSpared p o (push g k b X)
    spared_push k b X f = choice (AreSpared p o) (ltb UNSENT_OCTETS (unsent g k X + size_of (line k X) b)) _ _ (λ z. (f, tt)) (λ z. (f, tt))

    spared_answer : (k : ℕ) (b : Body) → IsOff o k → AreSpared p o (answer_to g k b J)
    spared_answer k body.Ping f = spared_push k body.PingOk J f
    spared_answer k _ f = tt

    spared_later : (c k : ℕ) (m : Message) → IsOff o k → AreSpared p o (at_later g c k m J)
    spared_later c k m f = choice (AreSpared p o) (is_hello m.body) _ _ (λ z. (f, tt)) (λ z. choice (AreSpared p o) (not (eqb m.sequence (due (counted k J)))) _ _ (λ y. (f, tt))
        (λ y. choice (AreSpared p o) (not (is_small (view_of (counted k J ++ m ∷ [])))) _ _ (λ x. (f, tt)) (λ x. (f, spared_answer k m.body f))))

    spared_first : (c : ℕ) (m : Message) → IsOf who c J → AreSpared p o (at_first g c (identity c J) m J)
    spared_first c m its = by (identity c J) refl
      where
        by : (u : Option PeerId) → identity c J ≡ u → AreSpared p o (at_first g c u m J)
        by None e = tt
        by (Some r) e = choice (AreSpared p o) (not (is_hello m.body && eqb m.sequence 1)) _ _ (λ z. (tt, tt)) (λ z. choice (AreSpared p o) (not (is_small (view_of (m ∷ [])))) _ _ (λ y. (tt, tt)) (λ y. starts (life_of r J) refl))
          where
            far : bytes_eq p.0 r.0 ≡ false
            far = other_of r (its r e)

            unknown : (u : Option Endpoint) → AreSpared p o (start_unknown g c r m u J)
            unknown None = (tt, tt)
            unknown (Some to) = choice (AreSpared p o) (ltb (length (lives J)) PEERS) _ _ (λ z. ((far, off_new), (off_new, (off_new, tt)))) (λ z. (tt, tt))

            starts : (u : Option Life) → life_of r J ≡ u → AreSpared p o (start g c r m u J)
            starts (Some w) z = (off_known r w far z, tt)
            starts None z = unknown (endpoint_in (view_of (m ∷ [])).endpoint)

    spared_message : (c : ℕ) (m : Message) → IsOf who c J → AreSpared p o (at_message g c (runs c J) m J)
    spared_message c m its = by (runs c J) refl
      where
        by : (u : Option ℕ) → runs c J ≡ u → AreSpared p o (at_message g c u m J)
        by None e = spared_first c m its
        by (Some k) e = spared_later c k m (off_run c k its e)

    -- c has this identity after its READY
    spared_ready : (c : ℕ) (r : PeerId) (u : Option PeerId) → identity c J ≡ u → IsOf who c (after (at_ready g c r u J) J) → AreSpared p o (at_ready g c r u J)
    spared_ready c r (Some i) e its = tt
    spared_ready c r None e its = All-join (Spares p o) (taken_over g (other_with r c J) J) _ (spared_taken r c (its r now)) (tt, tt)
      where
        now : identity c (after (taken_over g (other_with r c J) J ++ Identifies c r ∷ []) J) ≡ Some r
        now = ap (identity c) (after-append (taken_over g (other_with r c J) J) (Identifies c r ∷ []) J) ∙ (let me : eqb c c ≡ true = eq-eqb c c refl in rw me refl)

    spared_said : (c : ℕ) (one : Said) → IsOf who c J → IsOf who c (after (at_said g c one J) J) → AreSpared p o (at_said g c one J)
    spared_said c (Arrived arrival.Greeted) its then_ = (tt, tt)
    spared_said c (Arrived (arrival.Shaken r)) its then_ = spared_ready c r (identity c J) refl then_
    spared_said c (Arrived (arrival.Ping t)) its then_ = (tt, tt)
    spared_said c (Arrived (arrival.Message m)) its then_ = spared_message c m its
    spared_said c (Fault f) its then_ = All-join (Spares p o) (end_of_run g (runs c J) cause.Fault) _ (spared_run c cause.Fault its) (tt, tt)

    spared_place : (c : ℕ) (one : Said) → IsOf who c J → IsOf who c (after (at_place g c one J) J) → AreSpared p o (at_place g c one J)
    spared_place c one its then_ = by (is_live c J) refl then_
      where
        by : (b : Bool) → is_live c J ≡ b → IsOf who c (after (cond b (at_said g c one J) []) J) → AreSpared p o (cond b (at_said g c one J) [])
        by true z t = spared_said c one its t
        by false z t = tt

  spared_places : (c : ℕ) (all : List Said) → AllByRecursion (MaySay g.id) all → (J : List Mark) → IsProper J → life_of p J ≡ o → IsOf who c (after (at_places g c all J) J) → AreSpared p o (at_places g c all J)
  spared_places c = each_place g c who (λ J. life_of p J ≡ o) (λ hs J. AreSpared p o hs) (λ J. tt) (λ hs ks J x y. All-join (Spares p o) hs ks x y) (λ hs J x z. lives_left p o hs J x z) (λ J q is one. spared_place J q is c one)

  -- ---- at an entry about c

  module _ (H K : List Mark) (q : IsProper K) (is : life_of p K ≡ o) where
    spared_input : (c : ℕ) (i : Input) → is_about c i ≡ true → IsOf who c (after (at_input g i H K) K) → AreSpared p o (at_input g i H K)
    spared_input c (input.Opened d) e its = choice (AreSpared p o) (is_new d K) _ _ (λ z. choice (AreSpared p o) (ltb (length (open_ones K)) CONNECTIONS) _ _ (λ y. (tt, tt)) (λ y. (tt, tt))) (λ z. tt)
    spared_input c (input.Piece d octets) e its = spared_places d (newly_completed g.id d H K) (newly_fine g.id d H K) K q is (subst (λ n. IsOf who n (after (at_input g (input.Piece d octets) H K) K)) (eqb-true c d e) its)
    spared_input c (input.Shut d) e its = choice (AreSpared p o) (is_open d K) _ _
        (λ z. All-join (Spares p o) (end_of_run g (runs d K) cause.Shut) _ (spared_run K q is d cause.Shut (λ r y. its r (identity_remains c r (at_input g (input.Shut d) H K) K (input_allowed g (input.Shut d) H K q) (ap (λ n. identity n K) (eqb-true c d e) ∙ y)))) (tt, tt)) (λ z. tt)
    spared_input c (input.Datagram from x) e its = let z : true ≡ false = sym e in cc
    spared_input c (input.Linked x) e its = let z : true ≡ false = sym e in cc
    spared_input c (input.Reply x y) e its = let z : true ≡ false = sym e in cc
    spared_input c (input.Unlinked x) e its = let z : true ≡ false = sym e in cc
    spared_input c (input.Took x y) e its = let z : true ≡ false = sym e in cc
    spared_input c input.Tick e its = let z : true ≡ false = sym e in cc
    spared_input c (input.Do x) e its = let z : true ≡ false = sym e in cc
    spared_input c input.End e its = let z : true ≡ false = sym e in cc

-- no replies come with such an entry
no_reply : (c l : ℕ) (e : Entry) (H : List Mark) → is_about c e.input ≡ true → asked l (Comes e ∷ H) ≡ asked l H
no_reply c l e H a = ap (asked_with l H) (by e.input a)
  where
    none : (b : Bool) → replies l H ++ cond b [] [] ≡ replies l H
    none true = append-nil (replies l H)
    none false = append-nil (replies l H)

    by : (i : Input) → is_about c i ≡ true → replies l (Comes (record { at = e.at; input = i }) ∷ H) ≡ replies l H
    by (input.Opened d) z = none (is_linked l H)
    by (input.Piece d x) z = none (is_linked l H)
    by (input.Shut d) z = none (is_linked l H)
    by (input.Datagram from x) z = let y : true ≡ false = sym z in cc
    by (input.Linked x) z = let y : true ≡ false = sym z in cc
    by (input.Reply x y) z = let y : true ≡ false = sym z in cc
    by (input.Unlinked x) z = let y : true ≡ false = sym z in cc
    by (input.Took x y) z = let y : true ≡ false = sym z in cc
    by input.Tick z = let y : true ≡ false = sym z in cc
    by (input.Do x) z = let y : true ≡ false = sym z in cc
    by input.End z = let y : true ≡ false = sym z in cc

as_before : (g : Config) (l : ℕ) (H K : List Mark) → asked l K ≡ asked l H → IsAsBefore g l H K
as_before g l H K s =
    let put : line l K ≡ line l H = ap (λ (a : Asked). a.put) s in
    let linked : is_linked l K ≡ is_linked l H = ap (λ (a : Asked). a.linked) s in
    let replied : replies l K ≡ replies l H = ap (λ (a : Asked). a.replied) s in
    let gone : taken l K ≡ taken l H = ap (λ (a : Asked). a.gone) s in
    record {
      run = ap (λ (a : Asked). a.run) s;
      messages = ap (λ (a : Asked). a.messages) s;
      viewed = ap (λ (a : Asked). view_of a.messages) s;
      activity = ap (λ (a : Asked). a.activity) s;
      put = put;
      linked = linked;
      replied = replied;
      gone = gone;
      may_go = rw (put, linked, replied) refl;
      waits = rw (put, gone) refl;
      to_send = rw (put, linked, replied, gone) refl;
    }

module _ (g : Config) (earlier : List Entry) (e : Entry) (c : ℕ) (about : is_about c e.input ≡ true) where
  abbrev H : List Mark
  H = chronicle g earlier

  abbrev M : List Mark
  M = Comes e ∷ H

  module _ (p : PeerId) where
    abbrev Then : List Mark → Type 0
    Then hs = (identity c (after hs M) ≡ Some p → ⊥) → IsLeftAlone g p H (after hs M) (told hs M)

    going : Then (at_input g e.input H M)
    going far = record {
      same_life = lives_left p (life_of p H) hs M spared refl;
      same_peer = λ v z. as_before g v.link H (after hs M) (marks_left p v hs M (subst (λ u. AreSpared p u hs) z spared) ∙ no_reply c v.link e H about);
      none_told = none_told p (life_of p H) hs M (comes_proper g earlier e) (λ l v z. named g earlier l v z) (input_allowed g e.input H M (comes_proper g earlier e)) refl spared;
    }
      where
        hs : List Mark
        hs = at_input g e.input H M

        spared : AreSpared p (life_of p H) hs
        spared = spared_input g p (identity c (after hs M)) far (life_of p H) H M (comes_proper g earlier e) refl c e.input about (λ r z. z)

    pub left_alone : (identity c (with_entry g e H) ≡ Some p → ⊥) → IsLeftAlone g p H (with_entry g e H) (events_at g e H)
    left_alone = by (has_stopped H)
      where
        by : (b : Bool) → Then (cond b [] (at_input g e.input H M))
        by true far = record { same_life = refl; same_peer = λ v z. as_before g v.link H M (no_reply c v.link e H about); none_told = refl }
        by false far = going far

  pub itself_kept : itself (with_entry g e H) ≡ itself H
  itself_kept = by (has_stopped H) refl
    where
      hs : List Mark
      hs = at_input g e.input H M

      by : (b : Bool) → has_stopped H ≡ b → itself (after (cond b [] hs) M) ≡ itself H
      by true s = refl
      by false s =
          let whole : chronicle g (earlier ++ e ∷ []) ≡ after hs M = (continues g earlier (e ∷ [])).happened ∙ ap (λ b. after (cond b [] hs) M) s in
          let never : identity c (after hs M) ≡ Some g.id → ⊥ = λ z. (no_peer g (earlier ++ e ∷ [])).never_comes c (ap (identity c) whole ∙ z) in
          let spared = spared_input g g.id (identity c (after hs M)) never (life_of g.id H) H M (comes_proper g earlier e) refl c e.input about (λ r z. z) in
          itself_marks g.id (life_of g.id H) hs M spared
