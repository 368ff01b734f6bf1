-- Moves that bring an entry to a node: what they find, and what stands after them.
use Rattle.std.proofs.Common.{◌≡◌, ℕ, Bool, true, false, cond, ◌&&◌, eqb, List, ◌∷◌, map, Option, Some, None, is_some, refl, sym, ap, ◌∙◌, subst, true≢false, arith}
use Rattle.std.specs.Prelude.{option_map}
use Rattle.std.proofs.Math.Bool.{and-false}
use Rattle.zre_outside.specs.declared.entry.Input.{Input}
use Rattle.zre_outside.specs.declared.entry.Input.TheVariants as input
use Rattle.zre_net.specs.declared.moves.Move.{Move}
use Rattle.zre_net.specs.declared.moves.Move.TheVariants as move
use Rattle.zre_net.specs.declared.running.network.Network.{Network}
use Rattle.zre_net.specs.declared.running.rows.Carrier.{Carrier}
use Rattle.zre_net.specs.declared.running.rows.SentBeacon.{SentBeacon}
use Rattle.zre_net.specs.declared.running.rows.Way.{Way}
use Rattle.zre_net.specs.Comes.{turn_of, turn, with_move, at_broadcast}
use Rattle.zre_net.specs.Grammar.{may_come, is_there, passes}
use Rattle.zre_net.specs.History.{Incarnation, Happening, Happens, IsKnown, incarnations, running}
use Rattle.zre_net.specs.Lists.{nth}
use Rattle.zre_net.specs.Numbers.{Broadcast, Route, CarriedConn, broadcasts, routes, conns}
use Rattle.zre_net.specs.Rows.{running_at, is_at, same_number}
use Rattle.zre_net.specs.Running.{Finds, AreNodes, HasStarted, IsConn, StandsAfter, IsStill, IsKept, IsPlayed, Names, Receives, Sends, sent_of, way_of}
use Rattle.zre_net.proofs.ListsCountedFromOne.{some_one, nth_map, nth_reach, nth_first, nth_there, all_at}
use Rattle.zre_journal.proofs.NumberedLists.{eqb-comm}

-- ---- moves that start and end no node, and that do nothing with connections

abbrev pub LeavesNodes : Move → Type 0
LeavesNodes (move.Start n at id name host port) = ⊥
LeavesNodes (move.Crash n) = ⊥
LeavesNodes _ = Unit {0}

pub still : (m : Move) → LeavesNodes m → IsStill m
still (move.Start n at id name host port) z = absurd z
still (move.Crash n) z = absurd z
still _ z = record { incarnations_stay = λ t H. refl; running_stay = λ t H k. refl }

abbrev pub LeavesConns : Move → Type 0
LeavesConns (move.Open g n at) = ⊥
LeavesConns (move.Carry x p) = ⊥
LeavesConns (move.Piece x count at) = ⊥
LeavesConns _ = Unit {0}

pub kept : (m : Move) → LeavesConns m → IsKept m
kept (move.Open g n at) z = absurd z
kept (move.Carry x p) z = absurd z
kept (move.Piece x count at) z = absurd z
kept _ z = record { conns_stay = λ t H. refl; pending_stay = λ t H x. refl }

-- ---- a move that may not come

pub refused : (m : Move) (H : List Happening) (net : Network) → may_come m H ≡ false → IsPlayed m H false net
refused m H net e = record { fits = sym e; stands = λ z. absurd (true≢false (sym z)) }

pub played : (m : Move) (H : List Happening) (net : Network) → may_come m H ≡ true → StandsAfter (with_move m H) net → IsPlayed m H true net
played m H net e s = record { fits = sym e; stands = λ z. s }

-- ---- who runs at a node

pub nobody : (H : List Happening) (n : ℕ) (o : Option Incarnation) → Finds H n o None → is_some o ≡ false
nobody H n None f = refl
nobody H n (Some a) f = absurd (let e = f.0 in cc)

pub record Runs (H : List Happening) (n k : ℕ) (o : Option Incarnation) : Type 0 where
  pub who : Incarnation
  pub is : o ≡ Some who
  pub number : k ≡ who.number
  pub known : IsKnown H who
  pub node : who.node ≡ n
  pub there : nth k (incarnations H) ≡ Some who

pub somebody : (H : List Happening) (n k : ℕ) (o : Option Incarnation) → Finds H n o (Some k) → Runs H n k o
somebody H n k None f = absurd cc
somebody H n k (Some a) f = let e = some_one f.0 in record { who = a; is = refl; number = e; known = f.1; node = f.2; there = ap (λ j. nth j (incarnations H)) e ∙ f.1 }

pub not_running : (H : List Happening) (net : Network) (n : ℕ) → StandsAfter H net → None ≡ running_at n net.running.items → is_some (running n H) ≡ false
not_running H net n s e = nobody H n (running n H) (subst (λ f. Finds H n (running n H) f) (sym e) (s.nodes.runs n))

pub runs_there : (H : List Happening) (net : Network) (n k : ℕ) → StandsAfter H net → Some k ≡ running_at n net.running.items → Runs H n k (running n H)
runs_there H net n k s e = somebody H n k (running n H) (subst (λ f. Finds H n (running n H) f) (sym e) (s.nodes.runs n))

-- the entry of who runs there
pub at_it : (H : List Happening) (m : Move) (i : Input) (at : ℕ) (new : Network) (a : Incarnation) (o : Option Incarnation) → o ≡ Some a
    → StandsAfter (Happens m (Some (turn_of a at i)) ∷ H) new → StandsAfter (Happens m (option_map (λ b. turn_of b at i) o) ∷ H) new
at_it H m i at new a o e s = subst (λ z. StandsAfter (Happens m (option_map (λ b. turn_of b at i) z) ∷ H) new) (sym e) s

-- a move that brings an entry to who runs at a node, which is all that it needs
pub plays_at : (H : List Happening) (m : Move) (i : Input) (n k at : ℕ) (net new : Network) → StandsAfter H net → Some k ≡ running_at n net.running.items → may_come m H ≡ is_some (running n H) → turn m H ≡ option_map (λ b. turn_of b at i) (running n H)
    → ((a : Incarnation) → nth k (incarnations H) ≡ Some a → StandsAfter (Happens m (Some (turn_of a at i)) ∷ H) new) → IsPlayed m H true new
plays_at H m i n k at net new s e may brings f =
    let r = runs_there H net n k s e in
    played m H new (may ∙ ap (λ o. is_some o) r.is) (subst (λ t. StandsAfter (Happens m t ∷ H) new) (sym brings) (at_it H m i at new r.who (running n H) r.is (f r.who r.there)))

-- ---- whether a start is there

module _ (H : List Happening) (net : Network) (nodes : AreNodes H net) (a : Incarnation) (known : IsKnown H a) where
  row : HasStarted H a.number a net.started.items
  row = nodes.started.each a.number a known

  there_by : (o : Option Incarnation) (f : Option ℕ) → Finds H a.node o f → same_number a.number f ≡ passes (λ (b : Incarnation). eqb a.number b.number) o
  there_by None f z = ap (same_number a.number) z
  there_by (Some b) f z = ap (same_number a.number) z.0 ∙ eqb-comm b.number a.number

  pub there_same : is_at a.number (nth a.number net.started.items) net.running.items ≡ is_there H a
  there_same = ap (λ o. is_at a.number o net.running.items) row.there ∙ ap (λ n. same_number a.number (running_at n net.running.items)) row.is.node ∙ there_by (running a.node H) (running_at a.node net.running.items) (nodes.runs a.node)

-- ---- what a number names

-- where nothing is found, nothing of a node that runs is named
not_named : {A B : Type 0} (of : A → Incarnation) (value : A → B) (H : List Happening) (o : Option A) → Names of value H o None → passes (λ x. is_there H (of x)) o ≡ false
not_named of value H None r = refl
not_named of value H (Some x) r = sym r.0

-- ---- what a number of a connection names

pub record IsFound (H : List Happening) (x : ℕ) (y : Carrier) : Type 0 where
  pub conn : CarriedConn
  pub there : nth x (conns H) ≡ Some conn
  pub number : conn.number ≡ x
  pub is : IsConn H conn y

pub conn_found : (H : List Happening) (net : Network) (s : StandsAfter H net) (x : ℕ) (y : Carrier) → nth x net.conns.items ≡ Some y → IsFound H x y
conn_found H net s x y e =
    let reach = nth_reach x net.conns.items y e in
    let count = s.conns_are.count in
    let t = nth_there x (conns H) (nth_first x net.conns.items y e) (omega (arith, reach, count)) in
    let h = s.conns_are.each x t.0 t.1 in
    record { conn = t.0; there = t.1; number = h.number; is = subst (λ r. IsConn H t.0 r) (some_one (sym h.there ∙ e)) h.is }

pub conn_missing : (H : List Happening) (net : Network) (s : StandsAfter H net) (x : ℕ) → nth x net.conns.items ≡ None → nth x (conns H) ≡ None
conn_missing H net s x e = by (nth x (conns H)) refl
  where
    by : (o : Option CarriedConn) → nth x (conns H) ≡ o → o ≡ None
    by None z = refl
    by (Some c) z = absurd (let t = (s.conns_are.each x c z).there in cc)

pub receives_none : (H : List Happening) (net : Network) → StandsAfter H net → (x : ℕ) → nth x net.conns.items ≡ None → Receives H (nth x (conns H)) None
receives_none H net s x e = subst (λ o. Receives H o None) (sym (conn_missing H net s x e)) refl

receives_by : (H : List Happening) (net : Network) (s : StandsAfter H net) (x : ℕ) (y : Carrier) → nth x net.conns.items ≡ Some y → (b : Bool) → is_at y.to (nth y.to net.started.items) net.running.items ≡ b
    → Receives H (nth x (conns H)) (cond b (Some y.to) None)
receives_by H net s x y e b z =
    let f = conn_found H net s x y e in
    let same : is_at y.to (nth y.to net.started.items) net.running.items ≡ is_there H f.conn.to =
    ap (λ n. is_at n (nth n net.started.items) net.running.items) f.is.to ∙ there_same H net s.nodes f.conn.to f.is.to_known in
    subst (λ o. Receives H o (cond b (Some y.to) None)) (sym f.there) (by b f (sym z ∙ same))
  where
    by : (t : Bool) → (f : IsFound H x y) → t ≡ is_there H f.conn.to → Receives H (Some f.conn) (cond t (Some y.to) None)
    by true f q = (q, (λ k w. sym (some_one w) ∙ f.is.to), f.is.to_known)
    by false f q = (q, (λ k w. absurd cc), f.is.to_known)

pub receives_some : (H : List Happening) (net : Network) → StandsAfter H net → (x : ℕ) (y : Carrier) → nth x net.conns.items ≡ Some y → is_at y.to (nth y.to net.started.items) net.running.items ≡ true → Receives H (nth x (conns H)) (Some y.to)
receives_some H net s x y e z = receives_by H net s x y e true z

pub receives_gone : (H : List Happening) (net : Network) → StandsAfter H net → (x : ℕ) (y : Carrier) → nth x net.conns.items ≡ Some y → is_at y.to (nth y.to net.started.items) net.running.items ≡ false → Receives H (nth x (conns H)) None
receives_gone H net s x y e z = receives_by H net s x y e false z

pub record IsReceived (H : List Happening) (k : ℕ) (o : Option CarriedConn) : Type 0 where
  pub conn : CarriedConn
  pub is : o ≡ Some conn
  pub number : k ≡ conn.to.number
  pub runs : is_there H conn.to ≡ true
  pub there : nth k (incarnations H) ≡ Some conn.to

pub received : (H : List Happening) (k : ℕ) (o : Option CarriedConn) → Receives H o (Some k) → IsReceived H k o
received H k None r = absurd cc
received H k (Some c) r = let e = r.1 k refl in record { conn = c; is = refl; number = e; runs = sym r.0; there = ap (λ n. nth n (incarnations H)) e ∙ r.2 }

pub at_its_conn : (H : List Happening) (m : Move) (i : CarriedConn → Input) (at : ℕ) (new : Network) (c : CarriedConn) (o : Option CarriedConn) → o ≡ Some c
    → StandsAfter (Happens m (Some (turn_of c.to at (i c))) ∷ H) new → StandsAfter (Happens m (option_map (λ (d : CarriedConn). turn_of d.to at (i d)) o) ∷ H) new
at_its_conn H m i at new c o e s = subst (λ z. StandsAfter (Happens m (option_map (λ (d : CarriedConn). turn_of d.to at (i d)) z) ∷ H) new) (sym e) s

-- ---- what a number of a link names

link_missing : (H : List Happening) (ways : List Way) (g : ℕ) → ways ≡ map way_of (routes H) → nth g ways ≡ None → nth g (routes H) ≡ None
link_missing H ways g l e = by (nth g (routes H)) refl
  where
    by : (o : Option Route) → nth g (routes H) ≡ o → o ≡ None
    by None z = refl
    by (Some s) z = absurd (let q = sym e ∙ ap (nth g) l ∙ nth_map way_of g (routes H) ∙ ap (option_map way_of) z in cc)

pub record IsLinkFound (H : List Happening) (g : ℕ) (w : Way) : Type 0 where
  pub route : Route
  pub there : nth g (routes H) ≡ Some route
  pub is : w ≡ way_of route
  pub known : IsKnown H route.from

pub link_found : (H : List Happening) (net : Network) (s : StandsAfter H net) (g : ℕ) (w : Way) → nth g net.links ≡ Some w → IsLinkFound H g w
link_found H net s g w e = by (nth g (routes H)) refl
  where
    q : Some w ≡ option_map way_of (nth g (routes H))
    q = sym e ∙ ap (nth g) s.nodes.links ∙ nth_map way_of g (routes H)

    by : (o : Option Route) → nth g (routes H) ≡ o → IsLinkFound H g w
    by None z = absurd (let p = q ∙ ap (option_map way_of) z in cc)
    by (Some r) z = record { route = r; there = z; is = some_one (q ∙ ap (option_map way_of) z); known = all_at (λ (t : Route). IsKnown H t.from) g (routes H) r s.nodes.known z }

pub no_link : (H : List Happening) (net : Network) → StandsAfter H net → (g : ℕ) → nth g net.links ≡ None → nth g (routes H) ≡ None
no_link H net s g e = link_missing H net.links g s.nodes.links e

pub sends_none : (H : List Happening) (net : Network) → StandsAfter H net → (g : ℕ) → nth g net.links ≡ None → Sends H (nth g (routes H)) None
sends_none H net s g e = subst (λ o. Sends H o None) (sym (no_link H net s g e)) refl

sends_by : (H : List Happening) (net : Network) (s : StandsAfter H net) (g : ℕ) (w : Way) → nth g net.links ≡ Some w → (b : Bool) → is_at w.start (nth w.start net.started.items) net.running.items ≡ b
    → Sends H (nth g (routes H)) (cond b (Some w) None)
sends_by H net s g w e b z =
    let f = link_found H net s g w e in
    let start : w.start ≡ f.route.from.number = ap (λ (v : Way). v.start) f.is in
    let same : is_at w.start (nth w.start net.started.items) net.running.items ≡ is_there H f.route.from =
    ap (λ n. is_at n (nth n net.started.items) net.running.items) start ∙ there_same H net s.nodes f.route.from f.known in
    subst (λ o. Sends H o (cond b (Some w) None)) (sym f.there) (by b f (sym z ∙ same))
  where
    by : (t : Bool) → (f : IsLinkFound H g w) → t ≡ is_there H f.route.from → Sends H (Some f.route) (cond t (Some w) None)
    by true f q = (q, (λ v x. sym (some_one x) ∙ f.is), f.known)
    by false f q = (q, (λ v x. absurd cc), f.known)

pub sends_some : (H : List Happening) (net : Network) → StandsAfter H net → (g : ℕ) (w : Way) → nth g net.links ≡ Some w → is_at w.start (nth w.start net.started.items) net.running.items ≡ true → Sends H (nth g (routes H)) (Some w)
sends_some H net s g w e z = sends_by H net s g w e true z

pub sends_gone : (H : List Happening) (net : Network) → StandsAfter H net → (g : ℕ) (w : Way) → nth g net.links ≡ Some w → is_at w.start (nth w.start net.started.items) net.running.items ≡ false → Sends H (nth g (routes H)) None
sends_gone H net s g w e z = sends_by H net s g w e false z

pub record IsSender (H : List Happening) (w : Way) (o : Option Route) : Type 0 where
  pub route : Route
  pub is : o ≡ Some route
  pub way : w ≡ way_of route
  pub may : passes (λ (s : Route). is_there H s.from) o ≡ true
  pub there : nth w.start (incarnations H) ≡ Some route.from

pub sent_by : (H : List Happening) (w : Way) (o : Option Route) → Sends H o (Some w) → IsSender H w o
sent_by H w None r = absurd cc
sent_by H w (Some s) r = let e = r.1 w refl in record { route = s; is = refl; way = e; may = sym r.0; there = ap (λ (v : Way). nth v.start (incarnations H)) e ∙ r.2 }

pub at_its_link : (H : List Happening) (m : Move) (i : ℕ → Input) (at l : ℕ) (new : Network) (s : Route) (o : Option Route) → o ≡ Some s → l ≡ s.link
    → StandsAfter (Happens m (Some (turn_of s.from at (i l))) ∷ H) new → StandsAfter (Happens m (option_map (λ (r : Route). turn_of r.from at (i r.link)) o) ∷ H) new
at_its_link H m i at l new s o e q z = subst (λ r. StandsAfter (Happens m (option_map (λ (r : Route). turn_of r.from at (i r.link)) r) ∷ H) new) (sym e) (subst (λ k. StandsAfter (Happens m (Some (turn_of s.from at (i k))) ∷ H) new) q z)

-- ---- moves about links

pub link_refused : (m : Move) (H : List Happening) (g : ℕ) (new : Network) → may_come m H ≡ passes (λ (s : Route). is_there H s.from) (nth g (routes H)) → Sends H (nth g (routes H)) None → IsPlayed m H false new
link_refused m H g new may r = refused m H new (may ∙ not_named (λ (s : Route). s.from) way_of H (nth g (routes H)) r)

pub link_played : (H : List Happening) (m : Move) (i : ℕ → Input) (g at : ℕ) (w : Way) (new : Network) → may_come m H ≡ passes (λ (s : Route). is_there H s.from) (nth g (routes H))
    → turn m H ≡ option_map (λ (r : Route). turn_of r.from at (i r.link)) (nth g (routes H)) → Sends H (nth g (routes H)) (Some w)
    → ((a : Incarnation) → nth w.start (incarnations H) ≡ Some a → StandsAfter (Happens m (Some (turn_of a at (i w.link))) ∷ H) new) → IsPlayed m H true new
link_played H m i g at w new may brings r f =
    let q = sent_by H w (nth g (routes H)) r in
    played m H new (may ∙ q.may) (subst (λ t. StandsAfter (Happens m t ∷ H) new) (sym brings) (at_its_link H m i at w.link new q.route (nth g (routes H)) q.is (ap (λ (v : Way). v.link) q.way) (f q.route.from q.there)))

-- ---- beacons

pub no_beacon : (H : List Happening) (net : Network) (k n at : ℕ) → StandsAfter H net → None ≡ nth k net.beacons → may_come (move.Beacon k n at) H ≡ false
no_beacon H net k n at s e = by (nth k (broadcasts H)) refl
  where
    by : (o : Option Broadcast) → nth k (broadcasts H) ≡ o → (is_some (running n H) && is_some o) ≡ false
    by None z = and-false (is_some (running n H))
    by (Some b) z = absurd (let q = e ∙ ap (nth k) s.nodes.beacons ∙ nth_map sent_of k (broadcasts H) ∙ ap (option_map sent_of) z in cc)

pub hears : (H : List Happening) (net new : Network) (k n l at : ℕ) (w : SentBeacon) → StandsAfter H net → Some l ≡ running_at n net.running.items → Some w ≡ nth k net.beacons
    → ((a : Incarnation) → nth l (incarnations H) ≡ Some a → StandsAfter (Happens (move.Beacon k n at) (Some (turn_of a at (input.Datagram w.from w.octets))) ∷ H) new) → IsPlayed (move.Beacon k n at) H true new
hears H net new k n l at w s e q f = by (nth k (broadcasts H)) refl
  where
    r : Runs H n l (running n H)
    r = runs_there H net n l s e

    p : Some w ≡ option_map sent_of (nth k (broadcasts H))
    p = q ∙ ap (nth k) s.nodes.beacons ∙ nth_map sent_of k (broadcasts H)

    by : (o : Option Broadcast) → nth k (broadcasts H) ≡ o → IsPlayed (move.Beacon k n at) H true new
    by None z = absurd (let x = p ∙ ap (option_map sent_of) z in cc)
    by (Some b) z =
        let same : w ≡ sent_of b = some_one (p ∙ ap (option_map sent_of) z) in
        let brings : turn (move.Beacon k n at) H ≡ Some (turn_of r.who at (input.Datagram w.from w.octets)) =
        ap (at_broadcast n at H) z ∙ ap (option_map (λ a. turn_of a at (input.Datagram b.from.settings.host b.octets))) r.is ∙ ap (λ (v : SentBeacon). Some (turn_of r.who at (input.Datagram v.from v.octets))) (sym same) in
        played (move.Beacon k n at) H new (ap (λ o. is_some o && is_some (nth k (broadcasts H))) r.is ∙ ap (λ o. is_some o) z)
        (subst (λ t. StandsAfter (Happens (move.Beacon k n at) t ∷ H) new) (sym brings) (f r.who r.there))

-- ---- a connection that closes

pub shut_gone : (H : List Happening) (x at : ℕ) (new : Network) → Receives H (nth x (conns H)) None → IsPlayed (move.Shut x at) H false new
shut_gone H x at new r = refused (move.Shut x at) H new (not_named (λ (c : CarriedConn). c.to) (λ (c : CarriedConn). c.to.number) H (nth x (conns H)) r)

pub shut_played : (H : List Happening) (x at k : ℕ) (new : Network) → Receives H (nth x (conns H)) (Some k)
    → ((a : Incarnation) → nth k (incarnations H) ≡ Some a → StandsAfter (Happens (move.Shut x at) (Some (turn_of a at (input.Shut x))) ∷ H) new) → IsPlayed (move.Shut x at) H true new
shut_played H x at k new r f =
    let q = received H k (nth x (conns H)) r in
    played (move.Shut x at) H new (ap (passes (λ (c : CarriedConn). is_there H c.to)) q.is ∙ q.runs) (at_its_conn H (move.Shut x at) (λ c. input.Shut x) at new q.conn (nth x (conns H)) q.is (f q.conn.to q.there))
