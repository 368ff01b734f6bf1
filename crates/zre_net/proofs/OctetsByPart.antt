-- Octets of a connection come, part by part.
use Rattle.std.proofs.Common.{◌≡◌, ◌⊎◌, ℕ, zero, suc, ◌+◌, ◌-◌, ◌≤◌, ◌<◌, max, Bool, true, false, cond, ◌&&◌, eqb, leb, List, [], ◌∷◌, ◌++◌, length, map, take, drop, Option, Some, None, refl, sym, ap, ◌∙◌, subst, arith, eqb-true, eq-eqb, append_assoc}
use Rattle.std.specs.Prelude.{slice_get, slice_set, sum_by, option_map}
use Rattle.std.specs.List.{filter_map, AllByRecursion}
use Rattle.std.proofs.lemmas.List.{length-drop, map-append}
use Rattle.std.proofs.lemmas.List.Elements.{filter_map-append}
use Rattle.zre_outside.specs.declared.act.Act.{Act}
use Rattle.zre_outside.specs.declared.act.Act.TheVariants as act
use Rattle.zre_outside.specs.declared.entry.Entry.{Entry}
use Rattle.zre_outside.specs.declared.entry.Input.TheVariants as input
use Rattle.zre_peer.specs.declared.event.Event.{Event}
use Rattle.zre_mailbox.specs.Conn.{conn_after}
use Rattle.zre_values.specs.declared.settings.Settings.{Settings as Config}
use Rattle.zre_journal.specs.Chronicle.{Mark, Comes, followed}
use Rattle.zre_journal.specs.Connections.{is_new}
use Rattle.zre_journal.specs.Cutting.{but_offers, piece}
use Rattle.zre_journal.specs.Done.{acts_at}
use Rattle.zre_journal.specs.Events.{chronicle, events_at}
use Rattle.zre_journal.specs.Happens.{has_stopped, is_stop, with_entry}
use Rattle.zre_journal.specs.Heard.{bytes, was_opened, opens, piece_of}
use Rattle.zre_journal.proofs.WithoutEntryMarks.{through, ever_but}
use Rattle.zre_journal.proofs.CutPieces.{same_cut, events_twice, acts_twice}
use Rattle.zre_journal.proofs.JoinedEntries.{continues}
use Rattle.zre_net.specs.declared.moves.Move.TheVariants as move
use Rattle.zre_net.specs.declared.running.read_side.ReadSide.{ReadSide}
use Rattle.zre_net.specs.declared.running.network.Network.{Network}
use Rattle.zre_net.specs.declared.running.rows.Carrier.{Carrier}
use Rattle.zre_net.specs.Carried.{pending}
use Rattle.zre_net.specs.Comes.{turn_of, with_move}
use Rattle.zre_net.specs.Grammar.{may_come, passes, is_there}
use Rattle.zre_net.specs.History.{Incarnation, NodeTurn, Happening, Happens, IsKnown, incarnations, running, journal, chronicle_of}
use Rattle.zre_net.specs.Lists.{nth}
use Rattle.zre_net.specs.Numbers.{Route, CarriedConn, routes, route_in, broadcasts, broadcast_in, conns}
use Rattle.zre_net.specs.Rows.{running_at, has_waiting, Fits, IsHeard}
use Rattle.zre_net.specs.Running.{HasStarted, AreStarted, AreNodes, IsConn, HasConn, StandsAfter, IsPlayed, Receives, sent_of, way_of}
use Rattle.zre_net.specs.Said.{said_in, IsRest}
use Rattle.zre_net.specs.Sender.{is_slight}
use Rattle.zre_net.specs.Sending.{HasSent}
use Rattle.zre_net.proofs.ConnectionsAfterEntry.{known_later, conn_still, silent_more}
use Rattle.zre_net.proofs.OnePiece.{has_sent_whole}
use Rattle.zre_net.proofs.ReadSideAfterEntry.{fits_piece, completes_few}
use Rattle.zre_net.proofs.ListsCountedFromOne.{some_one, nth_at, set_length, sum_set, all_map, past_all}
use Rattle.zre_net.proofs.MovesWithEntries.{still, refused, played, received}
use Rattle.zre_net.proofs.SameMarksWhenCut.{new_but, sim, Sim}
use Rattle.zre_net.proofs.JournalsOfIncarnations.{chronicle_now, same_who}
use Rattle.zre_net.proofs.RowsStandForSame.{rows_set, start_stays, conn_stays, finds_stays}

-- ---- some octets come

module _ (H : List Happening) (x place most at : ℕ) (net : Network) (s : StandsAfter H net) (c : CarriedConn) (there : nth x (conns H) ≡ Some c) (was now : Carrier) (under : x ≡ place + 1) (before : slice_get net.conns.items place ≡ Some was) (b : List ℕ) (heard : IsHeard was most b now) where
  its : HasConn H x c net.conns.items
  its = s.conns_are.each x c there

  is : IsConn H c was
  is = subst (λ w. IsConn H c w) (some_one (sym its.there ∙ nth_at x place net.conns.items under ∙ before)) its.is

  abbrev T : NodeTurn
  T = turn_of c.to at (input.Piece x b)

  abbrev N : List Happening
  N = Happens (move.Piece x (length b) at) (Some T) ∷ H

  fit : Fits c.to.settings x (chronicle_of c.to H) was.read_side
  fit = subst (λ k. Fits c.to.settings k (chronicle_of c.to H) was.read_side) its.number is.fits

  waits : was.waiting ≡ pending x H
  waits = is.waits ∙ ap (λ k. pending k H) its.number

  pub slight_now : is_slight c.to.settings (input.Piece x b) (chronicle_of c.to H) (Comes T.entry ∷ chronicle_of c.to H)
  slight_now = completes_few c.to.settings x (chronicle_of c.to H) T.entry b was.read_side refl fit (λ o e. (heard.read_side c.to.settings.id o e).0)

  pub next_octets : b ≡ take (length b) (pending x H)
  next_octets = heard.next ∙ ap (take (length b)) waits

  pub comes_so : with_move (move.Piece x (length b) at) H ≡ N
  comes_so = ap (λ o. Happens (move.Piece x (length b) at) (option_map (λ (d : CarriedConn). turn_of d.to at (input.Piece x (take (length b) (pending x H)))) o) ∷ H) there
      ∙ ap (λ o. Happens (move.Piece x (length b) at) (Some (turn_of c.to at (input.Piece x o))) ∷ H) (sym next_octets)

  module _ (new : Network) (nodes : AreNodes N new) (rows : new.conns.items ≡ slice_set net.conns.items place now) (pending_now : new.pending + length b ≡ net.pending) where
    not_its : (y : ℕ) → eqb y x ≡ false → piece_of y (input.Piece x b) ≡ []
    not_its y z = ap (λ t. cond t b []) z

    conns_now : (y : ℕ) (d : CarriedConn) → nth y (conns H) ≡ Some d → HasConn N y d new.conns.items
    conns_now = rows_set (λ (d : CarriedConn). d.number) (IsConn H) (IsConn N) (conns H) x place net.conns.items new.conns.items was now under before rows (λ d e m r. subst (λ w. IsConn N w now) (some_one (sym there ∙ e)) mine)
        (λ y d z t h.
        let far : eqb d.number x ≡ false = ap (λ j. eqb j x) h.number ∙ z in
        conn_still H (move.Piece x (length b) at) (still (move.Piece x (length b) at) tt) c.to at (input.Piece x b) is.to_known y d net.conns.items new.conns.items t
        (not_its d.number far) (ap (λ t. cond t (drop (length b) (pending d.number H)) (pending d.number H)) far) h)
        s.conns_are.each
      where
        mine : IsConn N c now
        mine = record {
          to = heard.to ∙ is.to;
          to_known = known_later H (move.Piece x (length b) at) (still (move.Piece x (length b) at) tt) c.to at (input.Piece x b) is.to_known c.to is.to_known;
          along = heard.along ∙ is.along;
          along_known = known_later H (move.Piece x (length b) at) (still (move.Piece x (length b) at) tt) c.to at (input.Piece x b) is.to_known c.along.from is.along_known;
          waits = heard.waiting ∙ ap (drop (length b)) is.waits ∙ sym (ap (λ t. cond t (drop (length b) (pending c.number H)) (pending c.number H)) (eq-eqb c.number x its.number));
          fits = subst (λ K. Fits c.to.settings c.number K now.read_side) (sym (chronicle_now H (move.Piece x (length b) at) c.to at (input.Piece x b)))
              (fits_piece c.to.settings (journal c.to H) T.entry c.number b was.read_side now.read_side (ap (λ k. input.Piece k b) (sym its.number)) (λ o e. (heard.read_side c.to.settings.id o e).1) is.fits);
        }

    piece_stands : StandsAfter N new
    piece_stands = record {
      nodes = nodes;
      conns_are = record {
        count = ap (λ xs. length xs) rows ∙ set_length net.conns.items place now ∙ s.conns_are.count;
        each = conns_now;
        silent = λ d k y z. silent_more H (move.Piece x (length b) at) (still (move.Piece x (length b) at) tt) c.to at (input.Piece x b) is.to_known y (not_its y (past_all x (conns H) c there y z)) (λ w l. s.conns_are.silent w l y z) d k;
      };
      pending_is =
          let f = sum_set (λ (y : Carrier). length y.waiting) net.conns.items place was now before in
          let w = ap (λ xs. sum_by (λ (y : Carrier). length y.waiting) xs) rows in
          let l = ap (λ q. length q) heard.waiting ∙ length-drop (length b) was.waiting in
          let m = ap (λ q. length q) heard.next in
          let t = few (length b) was.waiting in
          omega (arith, f, w, l, m, t, pending_now, s.pending_is);
    }
      where
        few : (k : ℕ) (o : List ℕ) → length (take k o) ≤ length o
        few zero o = omega arith
        few (suc k) [] = omega arith
        few (suc k) (z ∷ o) = let r = few k o in omega (arith, r)

    pub hand_stands : StandsAfter (with_move (move.Piece x (length b) at) H) new
    hand_stands = subst (λ Z. StandsAfter Z new) (sym comes_so) piece_stands

-- ---- two pieces are one

dropped : (k : ℕ) (o : List ℕ) → o ≡ [] → drop k o ≡ []
dropped zero o e = e
dropped (suc k) [] e = refl
dropped (suc k) (z ∷ o) e = absurd cc

but_sends : (a : Incarnation) (xs : List Act) → filter_map (broadcast_in a) (but_offers xs) ≡ filter_map (broadcast_in a) xs
but_sends a [] = refl
but_sends a (act.Offer l ∷ xs) = but_sends a xs
but_sends a (act.Beacon o ∷ xs) = ap (λ ys. record { from = a; octets = o } ∷ ys) (but_sends a xs)
but_sends a (act.Connect l to ∷ xs) = but_sends a xs
but_sends a (act.CloseLink l ∷ xs) = but_sends a xs
but_sends a (act.CloseConn k ∷ xs) = but_sends a xs
but_sends a (act.Answer k o ∷ xs) = but_sends a xs

but_connects : (a : Incarnation) (xs : List Act) → filter_map (route_in a) (but_offers xs) ≡ filter_map (route_in a) xs
but_connects a [] = refl
but_connects a (act.Offer l ∷ xs) = but_connects a xs
but_connects a (act.Beacon o ∷ xs) = but_connects a xs
but_connects a (act.Connect l to ∷ xs) = ap (λ ys. record { from = a; link = l } ∷ ys) (but_connects a xs)
but_connects a (act.CloseLink l ∷ xs) = but_connects a xs
but_connects a (act.CloseConn k ∷ xs) = but_connects a xs
but_connects a (act.Answer k o ∷ xs) = but_connects a xs

module _ (H : List Happening) (x i j at : ℕ) (w : Incarnation) (known : IsKnown H w) (a b : List ℕ) where
  abbrev t : ℕ
  t = max at w.since

  abbrev G : Config
  G = w.settings

  abbrev I : List Entry
  I = journal w H

  abbrev H1 : List Happening
  H1 = Happens (move.Piece x i at) (Some (turn_of w at (input.Piece x a))) ∷ H

  abbrev H2 : List Happening
  H2 = Happens (move.Piece x j at) (Some (turn_of w at (input.Piece x b))) ∷ H1

  abbrev W : List Happening
  W = Happens (move.Piece x (i + j) at) (Some (turn_of w at (input.Piece x (a ++ b)))) ∷ H

  mine : (v : Incarnation) → v.number ≡ w.number → (e : Entry) → cond (eqb v.number w.number) (Some e) None ≡ Some e
  mine v q e = ap (λ z. cond z (Some e) None) (eq-eqb v.number w.number q)

  journal_two : journal w H2 ≡ I ++ piece t x a ∷ piece t x b ∷ []
  journal_two = ap (λ z. followed (followed I z) (cond (eqb w.number w.number) (Some (piece t x b)) None)) (mine w refl (piece t x a))
      ∙ ap (λ z. followed (I ++ piece t x a ∷ []) z) (mine w refl (piece t x b)) ∙ append_assoc I (piece t x a ∷ []) (piece t x b ∷ [])

  journal_one : journal w H1 ≡ I ++ piece t x a ∷ []
  journal_one = ap (λ z. followed I z) (mine w refl (piece t x a))

  journal_whole : journal w W ≡ I ++ piece t x (a ++ b) ∷ []
  journal_whole = ap (λ z. followed I z) (mine w refl (piece t x (a ++ b)))

  other_two : (v : Incarnation) → eqb v.number w.number ≡ false → journal v H2 ≡ journal v W
  other_two v q =
      ap (λ z. followed (followed (journal v H) (cond z (Some (piece t x a)) None)) (cond z (Some (piece t x b)) None)) q
      ∙ sym (ap (λ z. followed (journal v H) (cond z (Some (piece t x (a ++ b))) None)) q)

  abbrev A : List Mark
  A = chronicle G (I ++ piece t x a ∷ piece t x b ∷ [])

  abbrev B : List Mark
  B = chronicle G (I ++ piece t x (a ++ b) ∷ [])

  s : Sim (chronicle G (I ++ piece t x a ∷ piece t x b ∷ [])) (chronicle G (I ++ piece t x (a ++ b) ∷ []))
  s = sim G I t x a b

  -- what is so of the journals after two pieces is so after the whole
  for_all : (P Q : Incarnation → List Entry → Type 0) → (P w (I ++ piece t x a ∷ piece t x b ∷ []) → Q w (I ++ piece t x (a ++ b) ∷ [])) → ((v : Incarnation) (Z : List Entry) → P v Z → Q v Z) → (v : Incarnation) → IsKnown H v → P v (journal v H2) → Q v (journal v W)
  for_all P Q f k v l p = by (eqb v.number w.number) refl
    where
      by : (z : Bool) → eqb v.number w.number ≡ z → Q v (journal v W)
      by true z =
          let same : w ≡ v = same_who H w v known l (sym (eqb-true v.number w.number z)) in
          subst (λ u. Q u (journal u W)) same (subst (λ Z. Q w Z) (sym journal_whole) (f (subst (λ Z. P w Z) journal_two (subst (λ u. P u (journal u H2)) (sym same) p))))
      by false z = k v (journal v W) (subst (λ Z. P v Z) (other_two v z) p)

  fits_whole : (y : ℕ) (read_side : ReadSide) → Fits G y (chronicle G (I ++ piece t x a ∷ piece t x b ∷ [])) read_side → Fits G y (chronicle G (I ++ piece t x (a ++ b) ∷ [])) read_side
  fits_whole y read_side f = record {
    heard = λ o. f.heard (through (was_opened y) (ever_but (opens y) (λ e. refl)) A B s.alike ∙ o) ∙ ap (λ o. conn_after G.id o) ((same_cut G I t x a b).octets_are y);
    old = subst (λ n. (n ≡ false) ⊎ (has_stopped B ≡ true)) (through (is_new y) (new_but y) A B s.alike) (subst (λ n. (is_new y A ≡ false) ⊎ (n ≡ true)) (through has_stopped (ever_but is_stop (λ e. refl)) A B s.alike) f.old);
  }

  chronicle_one : chronicle_of w H1 ≡ with_entry G (piece t x a) (chronicle_of w H)
  chronicle_one = ap (chronicle G) journal_one ∙ (continues G I (piece t x a ∷ [])).happened

  module _ (net : Network) (st : StandsAfter H2 net) where
    said_same : said_in H2 ≡ said_in W
    said_same =
        ap (λ K. (said_in H ++ map (λ e. (w.node, e)) (events_at G (piece t x a) (chronicle_of w H))) ++ map (λ e. (w.node, e)) (events_at G (piece t x b) K)) chronicle_one
        ∙ append_assoc (said_in H) (map (λ e. (w.node, e)) (events_at G (piece t x a) (chronicle_of w H))) (map (λ e. (w.node, e)) (events_at G (piece t x b) (with_entry G (piece t x a) (chronicle_of w H))))
        ∙ ap (λ es. said_in H ++ es) (sym (map-append (λ (e : Event). (w.node, e)) (events_at G (piece t x a) (chronicle_of w H)) (events_at G (piece t x b) (with_entry G (piece t x a) (chronicle_of w H)))) ∙ ap (λ es. map (λ (e : Event). (w.node, e)) es) (events_twice G I t x a b))

    acts_same : {C : Type 0} (f : Act → Option C) (base : List C) → ((xs : List Act) → filter_map f (but_offers xs) ≡ filter_map f xs)
        → (base ++ filter_map f (acts_at G (piece t x a) (chronicle_of w H))) ++ filter_map f (acts_at G (piece t x b) (chronicle_of w H1)) ≡ base ++ filter_map f (acts_at G (piece t x (a ++ b)) (chronicle_of w H))
    acts_same f base but =
        let xs = acts_at G (piece t x a) (chronicle_of w H) in
        let ys = acts_at G (piece t x b) (with_entry G (piece t x a) (chronicle_of w H)) in
        ap (λ K. (base ++ filter_map f xs) ++ filter_map f (acts_at G (piece t x b) K)) chronicle_one
        ∙ append_assoc base (filter_map f xs) (filter_map f ys)
        ∙ ap (λ zs. base ++ zs) (sym (filter_map-append f xs ys) ∙ sym (but (xs ++ ys)) ∙ ap (filter_map f) (acts_twice G I t x a b) ∙ but (acts_at G (piece t x (a ++ b)) (chronicle_of w H)))

    broadcasts_same : broadcasts H2 ≡ broadcasts W
    broadcasts_same = acts_same (broadcast_in w) (broadcasts H) (but_sends w)

    routes_same : routes H2 ≡ routes W
    routes_same = acts_same (route_in w) (routes H) (but_connects w)

    started_same : AreStarted W net.started.items
    started_same = record { count = st.nodes.started.count; each = λ k v e. one_row k v e (st.nodes.started.each k v e); none_yet = λ v z. none v z (st.nodes.started.none_yet v z) }
      where
        one_row : (k : ℕ) (v : Incarnation) → nth k (incarnations H) ≡ Some v → HasStarted H2 k v net.started.items → HasStarted W k v net.started.items
        one_row k v e h = start_stays H2 W (λ u q. q) k v net.started.items net.started.items (λ r t. t)
            (λ r q. for_all (λ u Z. HasSent u.settings Z r.sender) (λ u Z. HasSent u.settings Z r.sender) (has_sent_whole G I t x a b r.sender) (λ u Z p. p) v (ap (λ n. nth n (incarnations H)) h.number ∙ e) q) h

        none : (v : Incarnation) → length (incarnations H) < v.number → journal v H2 ≡ [] → journal v W ≡ []
        none v z q = sym (other_two v (past_all w.number (incarnations H) w known v.number z)) ∙ q

    drop-twice : (n m : ℕ) (o : List ℕ) → drop m (drop n o) ≡ drop (n + m) o
    drop-twice zero m o = let e : m ≡ 0 + m = omega arith in ap (λ k. drop k o) e
    drop-twice (suc n) m [] = dropped m [] refl ∙ sym (dropped (suc n + m) [] refl)
    drop-twice (suc n) m (z ∷ o) = drop-twice n m o ∙ (let e : suc (n + m) ≡ suc n + m = omega arith in ap (λ k. drop k (z ∷ o)) e)

    pending_same : (y : ℕ) → pending y H2 ≡ pending y W
    pending_same y = by (eqb y x)
      where
        by : (u : Bool) → cond u (drop j (cond u (drop i (pending y H)) (pending y H))) (cond u (drop i (pending y H)) (pending y H)) ≡ cond u (drop (i + j) (pending y H)) (pending y H)
        by true = drop-twice i j (pending y H)
        by false = refl

    pub whole_stands : StandsAfter W net
    whole_stands = record {
      nodes = record {
        said = subst (λ es. IsRest net.handed es net.said) said_same st.nodes.said;
        started = started_same;
        runs = λ n. finds_stays H2 W (λ v k. k) n (running n H) (running_at n net.running.items) (st.nodes.runs n);
        live = st.nodes.live;
        gone = st.nodes.gone;
        owners = st.nodes.owners;
        beacons = st.nodes.beacons ∙ ap (λ xs. map sent_of xs) broadcasts_same;
        links = st.nodes.links ∙ ap (λ xs. map way_of xs) routes_same;
        known = subst (λ rs. AllByRecursion (λ (r : Route). IsKnown W r.from) rs) routes_same (all_map (λ (r : Route). IsKnown H2 r.from) (λ (r : Route). IsKnown W r.from) (λ r z. z) (routes H2) st.nodes.known);
        queued = st.nodes.queued;
      };
      conns_are = record { count = st.conns_are.count; each = λ y d e. one_conn y d (st.conns_are.each y d e); silent = silent };
      pending_is = st.pending_is;
    }
      where
        one_conn : (y : ℕ) (d : CarriedConn) → HasConn H2 y d net.conns.items → HasConn W y d net.conns.items
        one_conn y d h = conn_stays H2 W (λ u q. q) y d net.conns.items net.conns.items (λ r t. t) (pending_same d.number)
            (λ r k q. for_all (λ u Z. Fits u.settings d.number (chronicle u.settings Z) r.read_side) (λ u Z. Fits u.settings d.number (chronicle u.settings Z) r.read_side) (fits_whole d.number r.read_side) (λ u Z p. p) d.to k q) h

        silent : (v : Incarnation) → IsKnown W v → (y : ℕ) → length (conns W) < y → bytes y (chronicle_of v W) ≡ []
        silent v l y z = for_all (λ u Z. bytes y (chronicle u.settings Z) ≡ []) (λ u Z. bytes y (chronicle u.settings Z) ≡ []) (λ q. sym ((same_cut G I t x a b).octets_are y) ∙ q) (λ u Z q. q) v l (st.conns_are.silent v l y z)

taken-none : (k : ℕ) (o : List ℕ) → o ≡ [] → take k o ≡ []
taken-none zero o e = refl
taken-none (suc k) [] e = refl
taken-none (suc k) (z ∷ o) e = absurd cc

take-more : (i j : ℕ) (o : List ℕ) → take i o ++ take j (drop i o) ≡ take (i + j) o
take-more zero j o = let e : j ≡ 0 + j = omega arith in ap (λ k. take k o) e
take-more (suc i) j [] = taken-none j [] refl ∙ sym (taken-none (suc i + j) [] refl)
take-more (suc i) j (z ∷ o) = ap (λ q. z ∷ q) (take-more i j o) ∙ (let e : suc (i + j) ≡ suc i + j = omega arith in ap (λ k. take k (z ∷ o)) e)

-- octets that come one after the other
pub pieces_join : (H : List Happening) (x i j at : ℕ) (c : CarriedConn) (net : Network) → nth x (conns H) ≡ Some c → IsKnown H c.to
    → StandsAfter (with_move (move.Piece x j at) (with_move (move.Piece x i at) H)) net → StandsAfter (with_move (move.Piece x (i + j) at) H) net
pieces_join H x i j at c net there known s =
    subst (λ Z. StandsAfter Z net) (sym (once (i + j) H there (take (i + j) (pending x H)) refl))
    (subst (λ o. StandsAfter (Happens (move.Piece x (i + j) at) (Some (turn_of c.to at (input.Piece x o))) ∷ H) net) (take-more i j (pending x H))
    (whole_stands H x i j at c.to known (take i (pending x H)) (take j (drop i (pending x H))) net
    (subst (λ Z. StandsAfter Z net) (ap (λ Z. with_move (move.Piece x j at) Z) (once i H there (take i (pending x H)) refl) ∙ once j (H1 H x i j at c.to known (take i (pending x H)) (take j (drop i (pending x H)))) there (take j (drop i (pending x H))) (ap (take j) (sym (ap (λ b. cond b (drop i (pending x H)) (pending x H)) (eq-eqb x x refl))))) s)))
  where
    once : (n : ℕ) (Z : List Happening) → nth x (conns Z) ≡ Some c → (o : List ℕ) → o ≡ take n (pending x Z) → with_move (move.Piece x n at) Z ≡ Happens (move.Piece x n at) (Some (turn_of c.to at (input.Piece x o))) ∷ Z
    once n Z t o e =
        ap (λ d. Happens (move.Piece x n at) (option_map (λ (w : CarriedConn). turn_of w.to at (input.Piece x (take n (pending x Z)))) d) ∷ Z) t
        ∙ ap (λ q. Happens (move.Piece x n at) (Some (turn_of c.to at (input.Piece x q))) ∷ Z) (sym e)

-- ---- as a move

pub hand_on : (H : List Happening) (x count left came at : ℕ) (c : CarriedConn) (net new : Network) → StandsAfter H net → nth x (conns H) ≡ Some c → left ≤ count → came ≤ left
    → StandsAfter (with_move (move.Piece x came at) (with_move (move.Piece x (count - left) at) H)) new → StandsAfter (with_move (move.Piece x (count - (left - came)) at) H) new
hand_on H x count left came at c net new s there a b t =
    let same : count - left + came ≡ count - (left - came) = omega (arith, a, b) in
    subst (λ n. StandsAfter (with_move (move.Piece x n at) H) new) same (pieces_join H x (count - left) came at c new there (s.conns_are.each x c there).is.to_known t)

module _ (H : List Happening) (x count at k : ℕ) (net : Network) (r : Receives H (nth x (conns H)) (Some k)) (waits : (c : CarriedConn) → nth x (conns H) ≡ Some c → has_waiting count (nth x net.conns.items) ≡ leb count (length (pending x H))) where
  -- whether so many octets may come: whether so many wait
  may : may_come (move.Piece x count at) H ≡ has_waiting count (nth x net.conns.items)
  may =
      let q = received H k (nth x (conns H)) r in
      ap (passes (λ (c : CarriedConn). is_there H c.to && leb count (length (pending x H)))) q.is ∙ ap (λ b. b && leb count (length (pending x H))) q.runs ∙ sym (waits q.conn q.is)

  pub piece_refused : has_waiting count (nth x net.conns.items) ≡ false → IsPlayed (move.Piece x count at) H false net
  piece_refused z = refused (move.Piece x count at) H net (may ∙ z)

  pub piece_played : (new : Network) → has_waiting count (nth x net.conns.items) ≡ true → ((c : CarriedConn) → nth x (conns H) ≡ Some c → k ≡ c.to.number → StandsAfter (with_move (move.Piece x count at) H) new) → IsPlayed (move.Piece x count at) H true new
  piece_played new z t = let q = received H k (nth x (conns H)) r in played (move.Piece x count at) H new (may ∙ z) (t q.conn q.is q.number)

-- ---- how much waits

pub waiting_is : (H : List Happening) (net : Network) (s : StandsAfter H net) (x n : ℕ) (c : CarriedConn) → nth x (conns H) ≡ Some c → has_waiting n (nth x net.conns.items) ≡ leb n (length (pending x H))
waiting_is H net s x n c t =
    let h = s.conns_are.each x c t in
    ap (has_waiting n) h.there ∙ ap (λ o. leb n (length o)) h.is.waits ∙ ap (λ k. leb n (length (pending k H))) h.number
