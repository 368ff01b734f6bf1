-- Moves that bring no entry: a node is gone, and a connection is made to carry more.
use Rattle.std.proofs.Common.{◌≡◌, ℕ, ◌+◌, Bool, true, false, cond, eqb, List, [], ◌∷◌, ◌++◌, length, Option, Some, None, is_some, refl, sym, ap, ◌∙◌, subst, arith, eq-eqb, length-append}
use Rattle.std.specs.Prelude.{slice_get, slice_set, sum_by}
use Rattle.std.specs.List.{list_all}
use Rattle.std.specs.Option.{option_map, option_map_or}
use Rattle.zre_zmtp.specs.declared.writing.SocketType.TheVariants as socket
use Rattle.zre_zmtp.specs.Written.{ready_frame}
use Rattle.zre_msg.specs.Spelling.{octets}
use Rattle.zre_msg.specs.declared.message.Message.{Message}
use Rattle.zre_net.specs.declared.moves.Move.TheVariants as move
use Rattle.zre_net.specs.declared.moves.Part.{Part}
use Rattle.zre_net.specs.declared.moves.Part.TheVariants as part
use Rattle.zre_net.specs.declared.running.network.Network.{Network}
use Rattle.zre_net.specs.declared.running.rows.Started.{Started}
use Rattle.zre_net.specs.declared.running.rows.Carrier.{Carrier}
use Rattle.zre_net.specs.declared.running.rows.Way.{Way}
use Rattle.zre_net.specs.Carried.{spelling, appended, pending}
use Rattle.zre_net.specs.Grammar.{can_carry, may_come, passes}
use Rattle.zre_net.specs.History.{Incarnation, Happening, Happens, IsKnown, incarnations, running, journal, chronicle_of}
use Rattle.zre_net.specs.Lines.{octets_in}
use Rattle.zre_net.specs.Lists.{nth}
use Rattle.zre_net.specs.Numbers.{Route, CarriedConn, routes, conns, queued_on}
use Rattle.zre_net.specs.Said.{said_in, IsRest}
use Rattle.zre_net.specs.Rows.{running_at, with_running, has_node, OnlyRunning, fits_owner, HasStopped, part_octets, IsSpelledAt, IsLoaded, Fits}
use Rattle.zre_net.specs.Running.{IsStarted, HasStarted, AreStarted, Finds, AreNodes, IsConn, HasConn, AreConns, StandsAfter, IsPlayed}
use Rattle.zre_net.proofs.MovesWithEntries.{played, not_running, runs_there, conn_found, conn_missing, IsFound}
use Rattle.zre_net.proofs.RunningNodes.{live_kept, gone_stopped}
use Rattle.zre_net.proofs.ListsCountedFromOne.{some_one, apart, nth_map, set_length, sum_set, all_map}
use Rattle.zre_net.proofs.RowsStandForSame.{rows_set, start_stays, conn_stays, finds_stays}

-- ---- a node is gone

module _ (H : List Happening) (n k place : ℕ) (net new : Network) (s : StandsAfter H net) (was now : Started) (under : k ≡ place + 1) (before : slice_get net.started.items place ≡ Some was) (gone : HasStopped was now)
    (rows : new.started.items ≡ slice_set net.started.items place now) (runs : with_running n None net.running.items new.running.items)
    (owners : new.owners ≡ net.owners) (said : IsRest new.handed (said_in H) new.said) (beacons : new.beacons ≡ net.beacons) (links : new.links ≡ net.links) (conns_stay : new.conns ≡ net.conns)
    (queued : new.queued ≡ net.queued) (pending_stay : new.pending ≡ net.pending) (runner : Some k ≡ running_at n net.running.items) where
  abbrev N : List Happening
  N = Happens (move.Crash n) None ∷ H

  each : (j : ℕ) (b : Incarnation) → nth j (incarnations H) ≡ Some b → HasStarted N j b new.started.items
  each = rows_set (λ (a : Incarnation). a.number) (IsStarted H) (IsStarted N) (incarnations H) k place net.started.items new.started.items was now under before rows
      (λ b e m o. record { node = gone.node ∙ o.node; since = gone.since ∙ o.since; id = gone.id ∙ o.id; host = gone.host ∙ o.host; sent = gone.sent b.settings (journal b H) o.sent })
      (λ j b z t. start_stays H N (λ c k. k) j b net.started.items new.started.items t (λ x q. q)) s.nodes.started.each

  finds : (j : ℕ) → Finds N j (running j N) (running_at j new.running.items)
  finds j = subst (λ f. Finds N j (running j N) f) (sym (runs j)) (by (eqb j n))
    where
      by : (t : Bool) → Finds N j (cond t None (running j H)) (cond t None (running_at j net.running.items))
      by true = refl
      by false = finds_stays H N (λ c k. k) j (running j H) (running_at j net.running.items) (s.nodes.runs j)

  -- no other node runs by the start that is gone
  another : (j i : ℕ) → eqb j n ≡ false → running_at j net.running.items ≡ Some i → i ≡ place + 1 → ⊥
  another j i far e same =
      let one = runs_there H net j i s (sym e) in
      let two = runs_there H net n k s runner in
      let it = some_one (sym one.there ∙ ap (λ m. nth m (incarnations H)) (same ∙ sym under) ∙ two.there) in
      apart j n far (sym one.node ∙ ap (λ (w : Incarnation). w.node) it ∙ two.node)

  live : (j i : ℕ) → running_at j new.running.items ≡ Some i → has_node (nth i new.started.items) ≡ true
  live j i e = by (eqb j n) refl (sym (runs j) ∙ e)
    where
      by : (t : Bool) → eqb j n ≡ t → cond t None (running_at j net.running.items) ≡ Some i → has_node (nth i new.started.items) ≡ true
      by true q z = absurd cc
      by false q z = ap (λ xs. has_node (nth i xs)) rows ∙ live_kept net.started.items place i now (another j i q z) (s.nodes.live j i z)

  nodes : AreNodes N new
  nodes = record {
    said = said;
    started = record { count = ap (λ xs. length xs) rows ∙ set_length net.started.items place now ∙ s.nodes.started.count; each = each; none_yet = λ b z. s.nodes.started.none_yet b z };
    runs = finds;
    live = live;
    gone = subst (λ xs. OnlyRunning xs new.running.items) (sym rows) (gone_stopped net.started.items net.running.items s.nodes.gone new.running.items n place was now before gone.gone runs (sym runner ∙ ap (λ j. Some j) under));
    owners = λ n id. ap (list_all (fits_owner n id)) owners ∙ s.nodes.owners n id;
    beacons = beacons ∙ s.nodes.beacons;
    links = links ∙ s.nodes.links;
    known = all_map (λ (r : Route). IsKnown H r.from) (λ (r : Route). IsKnown N r.from) (λ r z. z) (routes H) s.nodes.known;
    queued =
        let f = sum_set (λ (x : Started). octets_in x.sender.lines) net.started.items place was now before in
        let w = ap (λ xs. sum_by (λ (x : Started). octets_in x.sender.lines) xs) rows in
        let l = ap octets_in gone.lines in
        omega (arith, f, w, l, queued, s.nodes.queued);
  }

  pub crash_stands : StandsAfter N new
  crash_stands = record {
    nodes = nodes;
    conns_are = subst (λ ys. AreConns N ys.items) (sym conns_stay) (record { count = s.conns_are.count; each = λ x c e. conn_stays H N (λ b k. k) x c net.conns.items net.conns.items (λ y t. t) refl (λ y k f. f) (s.conns_are.each x c e); silent = λ b l x z. s.conns_are.silent b l x z });
    pending_is = pending_stay ∙ s.pending_is ∙ ap (λ ys. sum_by (λ (y : Carrier). length y.waiting) ys.items) (sym conns_stay);
  }

-- ---- parts

module _ (H : List Happening) (s : Route) (x : Started) (is : IsStarted H s.from x) where
  message_is : (k : ℕ) → part_octets x s.link (part.Message k) ≡ option_map octets (nth k (queued_on s H))
  message_is k = ap (nth k) (is.sent.keeps.messages_are s.link) ∙ nth_map octets k (queued_on s H)

  pub part_there : (p : Part) (c : CarriedConn) → c.along ≡ s → (o : List ℕ) → part_octets x s.link p ≡ Some o → (can_carry H p c ≡ true) × (o ≡ spelling s H p)
  part_there part.Greeting c a o e = (refl, sym (some_one e))
  part_there part.Ready c a o e = (refl, sym (some_one e) ∙ ap (λ i. ready_frame socket.Dealer (Some i)) is.id)
  part_there (part.Message k) c a o e = by (nth k (queued_on s H)) (sym (message_is k) ∙ e) (ap (λ r. is_some (nth k (queued_on r H))) a)
    where
      by : (m : Option Message) → option_map octets m ≡ Some o → is_some (nth k (queued_on c.along H)) ≡ is_some m → (is_some (nth k (queued_on c.along H)) ≡ true) × (o ≡ option_map_or octets m [])
      by None z q = absurd cc
      by (Some m) z q = (q, sym (some_one z))

  pub part_missing : (p : Part) (c : CarriedConn) → c.along ≡ s → part_octets x s.link p ≡ None → can_carry H p c ≡ false
  part_missing part.Greeting c a e = absurd cc
  part_missing part.Ready c a e = absurd cc
  part_missing (part.Message k) c a e = by (nth k (queued_on s H)) (sym (message_is k) ∙ e) (ap (λ r. is_some (nth k (queued_on r H))) a)
    where
      by : (m : Option Message) → option_map octets m ≡ None → is_some (nth k (queued_on c.along H)) ≡ is_some m → is_some (nth k (queued_on c.along H)) ≡ false
      by None z q = q
      by (Some m) z q = absurd cc

-- ---- a connection carries more

module _ (H : List Happening) (x place : ℕ) (p : Part) (net new : Network) (s : StandsAfter H net) (c : CarriedConn) (there : nth x (conns H) ≡ Some c) (was now : Carrier) (under : x ≡ place + 1) (before : slice_get net.conns.items place ≡ Some was)
    (o : List ℕ) (spelled_as : o ≡ spelling c.along H p) (loaded : IsLoaded was o now) (rows : new.conns.items ≡ slice_set net.conns.items place now) (pending_now : new.pending ≡ net.pending + length o)
    (started : new.started ≡ net.started) (runs : new.running ≡ net.running) (owners : new.owners ≡ net.owners) (said : IsRest new.handed (said_in H) new.said) (beacons : new.beacons ≡ net.beacons) (links : new.links ≡ net.links) (queued : new.queued ≡ net.queued) where
  abbrev M : List Happening
  M = Happens (move.Carry x p) None ∷ H

  same_nodes : AreNodes M new
  same_nodes = record {
    said = said;
    started = subst (λ xs. AreStarted M xs.items) (sym started) (record { count = s.nodes.started.count; each = λ k a e. start_stays H M (λ b q. q) k a net.started.items net.started.items (λ x t. t) (λ x q. q) (s.nodes.started.each k a e); none_yet = λ b z. s.nodes.started.none_yet b z });
    runs = λ n. subst (λ r. Finds M n (running n H) (running_at n r.items)) (sym runs) (finds_stays H M (λ b k. k) n (running n H) (running_at n net.running.items) (s.nodes.runs n));
    live = λ n j e. ap (λ xs. has_node (nth j xs.items)) started ∙ s.nodes.live n j (ap (λ r. running_at n r.items) (sym runs) ∙ e);
    gone = subst (λ v. OnlyRunning v.items new.running.items) (sym started) (subst (λ r. OnlyRunning net.started.items r.items) (sym runs) s.nodes.gone);
    owners = λ n id. ap (list_all (fits_owner n id)) owners ∙ s.nodes.owners n id;
    beacons = beacons ∙ s.nodes.beacons;
    links = links ∙ s.nodes.links;
    known = all_map (λ (r : Route). IsKnown H r.from) (λ (r : Route). IsKnown M r.from) (λ r z. z) (routes H) s.nodes.known;
    queued = queued ∙ s.nodes.queued ∙ ap (λ xs. sum_by (λ (y : Started). octets_in y.sender.lines) xs.items) (sym started);
  }

  append-none : (a : Bool) (q r : List ℕ) → a ≡ false → cond a (q ++ r) q ≡ q
  append-none a q r e = ap (λ b. cond b (q ++ r) q) e

  conns_now : (y : ℕ) (d : CarriedConn) → nth y (conns H) ≡ Some d → HasConn M y d new.conns.items
  conns_now = rows_set (λ (d : CarriedConn). d.number) (IsConn H) (IsConn M) (conns H) x place net.conns.items new.conns.items was now under before rows mine
      (λ y d z t h. conn_stays H M (λ b k. k) y d net.conns.items new.conns.items t (sym (append-none (eqb d.number x) (pending d.number H) (appended d.number p H) (ap (λ j. eqb j x) h.number ∙ z))) (λ r k f. f) h) s.conns_are.each
    where
      mine : (d : CarriedConn) → nth x (conns H) ≡ Some d → d.number ≡ x → IsConn H d was → IsConn M d now
      mine d e m r = record {
        to = loaded.to ∙ r.to;
        to_known = r.to_known;
        along = loaded.along ∙ r.along;
        along_known = r.along_known;
        waits = loaded.waiting ∙ ap (λ q. q ++ o) r.waits ∙ ap (λ q. pending d.number H ++ q) (spelled_as ∙ ap (λ (w : CarriedConn). spelling w.along H p) (some_one (sym there ∙ e)) ∙ sym (ap (λ q. option_map_or (λ (w : CarriedConn). spelling w.along H p) q []) (ap (λ j. nth j (conns H)) m ∙ e)))
            ∙ sym (ap (λ b. cond b (pending d.number H ++ appended d.number p H) (pending d.number H)) (eq-eqb d.number x m));
        fits = subst (λ w. Fits d.to.settings d.number (chronicle_of d.to H) w) (sym loaded.read_side) r.fits;
      }

  pub carry_stands : StandsAfter M new
  carry_stands = record {
    nodes = same_nodes;
    conns_are = record { count = ap (λ xs. length xs) rows ∙ set_length net.conns.items place now ∙ s.conns_are.count; each = conns_now; silent = λ b k y z. s.conns_are.silent b k y z };
    pending_is =
        let f = sum_set (λ (y : Carrier). length y.waiting) net.conns.items place was now before in
        let w = ap (λ xs. sum_by (λ (y : Carrier). length y.waiting) xs) rows in
        let l = ap (λ q. length q) loaded.waiting in
        let a = length-append was.waiting o in
        omega (arith, f, w, l, a, pending_now, s.pending_is);
  }

-- ---- as moves

pub crash_refused : (H : List Happening) (net : Network) (n : ℕ) → StandsAfter H net → None ≡ running_at n net.running.items → may_come (move.Crash n) H ≡ false
crash_refused H net n s e = not_running H net n s e

pub crash_played : (H : List Happening) (n k : ℕ) (net new : Network) → StandsAfter H net → Some k ≡ running_at n net.running.items → StandsAfter (Happens (move.Crash n) None ∷ H) new → IsPlayed (move.Crash n) H true new
crash_played H n k net new s e t = let r = runs_there H net n k s e in played (move.Crash n) H new (ap (λ o. is_some o) r.is) t

module _ (H : List Happening) (net : Network) (s : StandsAfter H net) (x : ℕ) (p : Part) (y : Carrier) (found : nth x net.conns.items ≡ Some y) where
  f : IsFound H x y
  f = conn_found H net s x y found

  row_of : HasStarted H f.conn.along.from.number f.conn.along.from net.started.items
  row_of = s.nodes.started.each f.conn.along.from.number f.conn.along.from f.is.along_known

  spelled_row : (o : Option (List ℕ)) → IsSpelledAt (nth y.along.start net.started.items) y.along.link p o → o ≡ part_octets row_of.row f.conn.along.link p
  spelled_row o q = subst (λ r. IsSpelledAt r f.conn.along.link p o) row_of.there (subst (λ (w : Way). IsSpelledAt (nth w.start net.started.items) w.link p o) f.is.along q)

  pub carry_refused : IsSpelledAt (nth y.along.start net.started.items) y.along.link p None → may_come (move.Carry x p) H ≡ false
  carry_refused q = ap (passes (can_carry H p)) f.there ∙ part_missing H f.conn.along row_of.row row_of.is p f.conn refl (sym (spelled_row None q))

  pub carry_played : (o : List ℕ) → IsSpelledAt (nth y.along.start net.started.items) y.along.link p (Some o) → (place : ℕ) (was now : Carrier) (new : Network) → x ≡ place + 1 → slice_get net.conns.items place ≡ Some was → IsLoaded was o now
      → new.conns.items ≡ slice_set net.conns.items place now → new.pending ≡ net.pending + length o → new.started ≡ net.started → new.running ≡ net.running → new.owners ≡ net.owners → IsRest new.handed (said_in H) new.said → new.beacons ≡ net.beacons → new.links ≡ net.links → new.queued ≡ net.queued
      → IsPlayed (move.Carry x p) H true new
  carry_played o q place was now new under before loaded rows pending_now started runs owners said beacons links queued =
      let t = part_there H f.conn.along row_of.row row_of.is p f.conn refl o (sym (spelled_row (Some o) q)) in
      played (move.Carry x p) H new (ap (passes (can_carry H p)) f.there ∙ t.0)
      (carry_stands H x place p net new s f.conn f.there was now under before o t.1 loaded rows pending_now started runs owners said beacons links queued)

pub carry_missing : (H : List Happening) (net : Network) (x : ℕ) (p : Part) → StandsAfter H net → nth x net.conns.items ≡ None → may_come (move.Carry x p) H ≡ false
carry_missing H net x p s e = ap (passes (can_carry H p)) (conn_missing H net s x e)
