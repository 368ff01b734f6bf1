-- The first message of a connection.
use Rattle.std.proofs.Common.{◌≡◌, ◌≢◌, ℕ, ◌+◌, ◌<◌, ◌≤◌, Bool, true, false, not, ◌&&◌, ◌||◌, eqb, ltb, List, [], ◌∷◌, ◌++◌, length, Option, Some, None, is_some, is_none, find, Result, Ok, Err, OnOk, refl, sym, ap, ◌∙◌, nat_cmp, subst, eq-eqb, ne_eqb, arith, lt-ltb, le-ltb, eqb-true, append-nil}
use Rattle.std.proofs.lemmas.Bool.{and_parts, not-true}
use Rattle.std.specs.List.{AllByRecursion}
use Rattle.zre_values.specs.declared.endpoint.Endpoint.{Endpoint}
use Rattle.zre_peer.specs.declared.causes.IgnoreWhy.TheVariants as ignore
use Rattle.zre_peer.specs.declared.peer_run.RunFault.{RunFault}
use Rattle.zre_peer.specs.declared.peer_run.RunFault.TheVariants as fault
use Rattle.zre_peer.specs.Runs.{is_hello, may_follow, fault_of, events_of}
use Rattle.zre_peer.specs.Views.{view_of, is_small}
use Rattle.zre_values.specs.Endpoint.{endpoint_in}
use Rattle.zre_peer.specs.declared.event.Event.{Event}
use Rattle.zre_values.specs.declared.memory.OutOfMemory.{OutOfMemory}
use Rattle.std.specs.Result.{is_err}
use Rattle.zre_node.specs.declared.effects.Effects.{Effects}
use Rattle.zre_journal.specs.Arrivals.{at_first, start, start_unknown}
use Rattle.zre_journal.specs.Pushes.{birth}
use Rattle.zre_journal.specs.Told.{told}
use Rattle.std.specs.BTreeMap.{is_at}
use Rattle.std.specs.Map.{lookup, set_value}
use Rattle.zre_values.specs.declared.peer_id.PeerId.{PeerId}
use Rattle.zre_msg.specs.declared.message.Message.{Message}
use Rattle.zre_peer.specs.declared.causes.IgnoreWhy.{IgnoreWhy}
use Rattle.zre_values.specs.declared.settings.Settings.{Settings as Config}
use Rattle.zre_journal.specs.Chronicle.{Mark, Starts, Ignores, after, ever}
use Rattle.zre_journal.specs.Connections.{open_ones, is_open, is_live, is_ignored, was_used, identity, runs, started, refuses, has_ended}
use Rattle.zre_journal.specs.Peers.{Life, lives, life, life_of, births, runner, counted}
use Rattle.zre_journal.specs.Proper.{IsProper}
use Rattle.zre_journal.proofs.ProperAfterMarks.{known_lives, newborn, runner_runs, Starts-proper, Ignores-proper}
use Rattle.zre_journal.proofs.NumberedLists.{eqb-comm, found_passes, All-map}
use Rattle.zre_journal.proofs.KnownPeers.{known_of, id_of}
use Rattle.zre_tables.specs.declared.connection.Connection.{Connection}
use Rattle.zre_tables.specs.declared.peer.Peer.{Peer}
use Rattle.zre_node.specs.declared.tables.Tables.{Tables}
use Rattle.zre_tables.specs.Tabled.{Tabled}
use Rattle.zre_tables.specs.Runs.{HasRun}
use Rattle.zre_node.specs.Stands.{Holds, Did, IsPeer, IsConn, kept_conn}
use Rattle.zre_tables.proofs.EntriesOfMaps.{changed}
use Rattle.zre_node.proofs.ConnectionsComeAndGo.{with_conns}
use Rattle.zre_node.proofs.RowsOfKnownPeers.{its_row}
use Rattle.zre_node.proofs.UnchangedByMarks.{keeps_as}

-- ---- a waiting connection has started nothing and was not refused

or_parts : (a b : Bool) → (a || b) ≡ false → (a ≡ false) × (b ≡ false)
or_parts true b e = absurd cc
or_parts false b e = (refl, e)

not_some : {A : Type 0} (o : Option A) → is_some o ≡ false → o ≡ None
not_some None e = refl
not_some (Some a) e = absurd cc

pub live_open : (c : ℕ) (H : List Mark) → is_live c H ≡ true → is_open c H ≡ true
live_open c H e = (and_parts (is_open c H) (not (is_ignored c H)) e).0

pub heard : (c : ℕ) (H : List Mark) → is_live c H ≡ true → is_ignored c H ≡ false
heard c H e = not-true (is_ignored c H) (and_parts (is_open c H) (not (is_ignored c H)) e).1

pub waits : (c : ℕ) (H : List Mark) → is_live c H ≡ true → runs c H ≡ None → (ever (refuses c) H ≡ false) × (started c H ≡ None)
waits c H live idle =
    let k : (is_none (runs c H) && was_used c H) ≡ false = heard c H live in
    let w : was_used c H ≡ false = rw idle at k in
    let p = or_parts (ever (refuses c) H) (is_some (started c H)) w in
    (p.0, not_some (started c H) p.1)

-- ---- it is refused

module _ (g : Config) (H : List Mark) (t : Tables) (h : Holds g H t) (c : ℕ) (why : IgnoreWhy) (live : is_live c H ≡ true) (idle : runs c H ≡ None) where
  pub refused : (C : List (ℕ × Connection)) → C ≡ set_value (is_at (nat_cmp c)) t.conns (record (kept_conn g H c) { since = t.clock; run = None; conn = None }) → Holds g (Ignores c why ∷ H) (record t { conns = C })
  refused C is = with_conns g H (Ignores c why ∷ H) t t.last C h (Ignores-proper H h.keeps.proper c why (live_open c H live)) refl refl refl h.peers refl refl refl h.keeps.last_is
      (subst (λ es. Tabled (λ (d : ℕ). d) (IsConn g (Ignores c why ∷ H)) (open_ones H) es) (sym is)
      (changed (λ (d : ℕ). d) (IsConn g H) (IsConn g (Ignores c why ∷ H)) c (record (kept_conn g H c) { since = t.clock; run = None; conn = None })
      (λ d w far k. let off : eqb d c ≡ false = eqb-comm d c ∙ far in k ∙ rw off refl) (open_ones H) t.conns h.keeps.proper.opening.open_apart
      (λ d f. let same : c ≡ d = eqb-true c d (found_passes (eqb c) (open_ones H) d f) in
      let me : eqb c c ≡ true = eq-eqb c c refl in
      let s = (waits c H live idle).1 in
      subst (λ x. record (kept_conn g H c) { since = t.clock; run = None; conn = None } ≡ kept_conn g (Ignores c why ∷ H) x) same (rw (me, s, h.keeps.clock_is) refl)) h.keeps.conns))

-- ---- it starts a run

module _ (g : Config) (H : List Mark) (t : Tables) (h : Holds g H t) (c l : ℕ) (m : Message) (v : Life) (live : is_live c H ≡ true) (idle : runs c H ≡ None) (k : life l H ≡ Some v) (who : identity c H ≡ Some v.id) where
  -- the peer has no run
  free : runner l H ≡ None
  free = by (runner l H) refl
    where
      by : (o : Option ℕ) → runner l H ≡ o → o ≡ None
      by None e = refl
      by (Some d) e =
          let alive = (known_lives H h.keeps.proper l v k).0 in
          let q = h.keeps.proper.running in
          let same : d ≡ c = q.is_sole d c v.id (q.is_heard d l e alive) (live_open c H live) (q.is_its_own d l v e alive k) who in
          let z : Some l ≡ None = sym (runner_runs H h.keeps.proper d l e alive) ∙ ap (λ x. runs x H) same ∙ idle in absurd cc

  alive : has_ended l H ≡ false
  alive = (known_lives H h.keeps.proper l v k).0

  link_is : l ≡ v.link
  link_is = (known_lives H h.keeps.proper l v k).2

  conns_after : (C : List (ℕ × Connection)) → C ≡ set_value (is_at (nat_cmp c)) t.conns (record (kept_conn g H c) { run = Some l }) → Tabled (λ (d : ℕ). d) (IsConn g (Starts c l m ∷ H)) (open_ones H) C
  conns_after C is = subst (λ es. Tabled (λ (d : ℕ). d) (IsConn g (Starts c l m ∷ H)) (open_ones H) es) (sym is)
      (changed (λ (d : ℕ). d) (IsConn g H) (IsConn g (Starts c l m ∷ H)) c (record (kept_conn g H c) { run = Some l })
      (λ d w far z. let off : eqb d c ≡ false = eqb-comm d c ∙ far in z ∙ rw off refl) (open_ones H) t.conns h.keeps.proper.opening.open_apart
      (λ d f. let same : c ≡ d = eqb-true c d (found_passes (eqb c) (open_ones H) d f) in
      let me : eqb c c ≡ true = eq-eqb c c refl in
      let quiet = heard c H live in
      subst (λ x. record (kept_conn g H c) { run = Some l } ≡ kept_conn g (Starts c l m ∷ H) x) same (rw (me, alive, quiet) refl)) h.keeps.conns)

  peers_after : (x : Peer) (w : Peer) (P : List (ℕ × Peer)) → Some x ≡ lookup (is_at (nat_cmp l)) t.peers → w.id ≡ x.id → w.link ≡ x.link → w.active ≡ t.clock → HasRun (Some c) v.id (m ∷ []) w.run
      → P ≡ set_value (is_at (nat_cmp l)) t.peers w → Tabled (λ (u : Life). u.link) (IsPeer g (Starts c l m ∷ H)) (lives H) P
  peers_after x w P was id link now run put =
      let r = its_row (IsPeer g H) H t.peers h.peers l x was in
      let that : r.0 ≡ v = (let z : Some r.0 ≡ Some v = sym r.1 ∙ k in cc) in
      let is : IsPeer g H v x = subst (λ u. IsPeer g H u x) that r.2 in
      subst (λ es. Tabled (λ (u : Life). u.link) (IsPeer g (Starts c l m ∷ H)) (lives H) es) (sym put)
      (changed (λ (u : Life). u.link) (IsPeer g H) (IsPeer g (Starts c l m ∷ H)) l w
      (λ u y far z. let off : eqb u.link l ≡ false = eqb-comm u.link l ∙ far in rw off z) (lives H) t.peers h.keeps.proper.living.apart
      (λ u f. let same : v ≡ u = (let z : Some v ≡ Some u = sym k ∙ f in cc) in
      let me : eqb v.link l ≡ true = eq-eqb v.link l (sym link_is) in
      let silent : counted v.link H ≡ [] = ap (λ j. counted j H) (sym link_is) ∙ h.keeps.proper.running.is_silent l free in
      subst (λ y. IsPeer g (Starts c l m ∷ H) y w) same (rw (me, silent) record { id_is = id ∙ is.id_is; active_is = now ∙ h.keeps.clock_is; run_is = run; link_is = link ∙ is.link_is })) h.peers)

  pub starts : (C : List (ℕ × Connection)) → C ≡ set_value (is_at (nat_cmp c)) t.conns (record (kept_conn g H c) { run = Some l })
      → (x w : Peer) (P : List (ℕ × Peer)) → Some x ≡ lookup (is_at (nat_cmp l)) t.peers → w.id ≡ x.id → w.link ≡ x.link → w.active ≡ t.clock → HasRun (Some c) v.id (m ∷ []) w.run
      → P ≡ set_value (is_at (nat_cmp l)) t.peers w → Holds g (Starts c l m ∷ H) (record t { peers = P; conns = C })
  starts C conns x w P was id link now run put = record {
    keeps = keeps_as g H _ _ _ h.keeps (Starts-proper H h.keeps.proper c l m v (live_open c H live) (waits c H live idle).1 k who free) refl (refl, refl, refl) h.keeps.clock_is h.keeps.births_is h.keeps.last_is h.keeps.groups_fit h.keeps.own (conns_after C conns);
    peers = peers_after x w P was id link now run put;
  }

-- ---- which marks a first message leaves

module _ (g : Config) (c : ℕ) (p : PeerId) (m : Message) (H : List Mark) where
  -- a message that makes no run
  pub first_refused : (f : RunFault) → (may_follow [] m ≡ false) × (f ≡ fault_of [] m) → (f ≡ fault.NotHello → at_first g c (Some p) m H ≡ Ignores c ignore.NotHello ∷ []) × (f ≡ fault.Limit → at_first g c (Some p) m H ≡ Ignores c ignore.Limit ∷ [])
  first_refused f why = by (is_hello m.body && eqb m.sequence 1) refl (is_small (view_of (m ∷ []))) refl why.0 why.1
    where
      by : (a : Bool) → (is_hello m.body && eqb m.sequence 1) ≡ a → (b : Bool) → is_small (view_of (m ∷ [])) ≡ b → may_follow [] m ≡ false → f ≡ fault_of [] m
          → (f ≡ fault.NotHello → at_first g c (Some p) m H ≡ Ignores c ignore.NotHello ∷ []) × (f ≡ fault.Limit → at_first g c (Some p) m H ≡ Ignores c ignore.Limit ∷ [])
      by false x b y e is = (λ k. rw x refl, λ k. let z : fault.NotHello ≡ fault.Limit = sym (rw x at is) ∙ k in absurd cc)
      by true x false y e is = (λ k. let z : fault.Limit ≡ fault.NotHello = sym (rw x at is) ∙ k in absurd cc, λ k. rw (x, y) refl)
      by true x true y e is = let z : true ≡ false = rw (x, y) at e in absurd cc

  -- one that makes a run
  pub first_starts : may_follow [] m ≡ true → at_first g c (Some p) m H ≡ start g c p m (life_of p H) H
  first_starts e =
      let q = and_parts (is_hello m.body && eqb m.sequence 1) (is_small (view_of (m ∷ []))) e in
      rw (q.0, q.1) refl

-- ---- the peer of an identity, by its link

-- the life with an identity is the one of its link, and has that identity
pub its_own_life : (H : List Mark) → IsProper H → (p : PeerId) (v : Life) → life_of p H ≡ Some v → (life v.link H ≡ Some v) × (v.id ≡ p)
its_own_life H q p v e = (known_of H q p v e, id_of H p v e)

-- what starting a run tells
pub starts_tell : (g : Config) (H : List Mark) (t : Tables) → Holds g H t → (c : ℕ) (m : Message) (v : Life) (p : PeerId) → is_live c H ≡ true → runs c H ≡ None → identity c H ≡ Some p → life v.link H ≡ Some v → v.id ≡ p
    → told (Starts c v.link m ∷ []) H ≡ events_of p (view_of []) m.body
starts_tell g H t h c m v p live idle who k id =
    let none = free g H t h c v.link m v live idle k (who ∙ ap (λ (x : PeerId). Some x) (sym id)) in
    let silent : counted v.link H ≡ [] = h.keeps.proper.running.is_silent v.link none in
    rw (k, silent, id) (append-nil (events_of p (view_of []) m.body))

-- ---- a newborn peer

pub last_found : (n : ℕ) (vs : List Life) (v : Life) → eqb n v.link ≡ true → AllByRecursion (λ (u : Life). u.link < n) vs → find (λ (u : Life). eqb n u.link) (vs ++ v ∷ []) ≡ Some v
last_found n [] v e a = rw e refl
last_found n (u ∷ us) v e a = let low : u.link < n = a.0 in let far : eqb n u.link ≡ false = ne_eqb n u.link (λ q. omega arith) in rw far (last_found n us v e a.1)

pub newborn_known : (g : Config) (H : List Mark) → IsProper H → (p : PeerId) (e : Endpoint) → life (births H + 1) (after (birth g p e H) H) ≡ Some (newborn (births H + 1) p e)
newborn_known g H q p e = last_found (births H + 1) (lives H) (newborn (births H + 1) p e) (eq-eqb (births H + 1) (births H + 1) refl)
    (All-map (λ (v : Life). v.link ≤ births H) (λ (v : Life). v.link < births H + 1) (λ v h. omega arith) (lives H) q.living.numbered)

-- the marks of a start, by the place
pub known_starts : (g : Config) (c : ℕ) (p : PeerId) (m : Message) (H : List Mark) (v : Life) → life_of p H ≡ Some v → start g c p m (life_of p H) H ≡ Starts c v.link m ∷ []
known_starts g c p m H v e = rw e refl

pub new_starts : (g : Config) (c : ℕ) (p : PeerId) (m : Message) (H : List Mark) (e : Endpoint) → life_of p H ≡ None → endpoint_in (view_of (m ∷ [])).endpoint ≡ Some e → length (lives H) < 256
    → start g c p m (life_of p H) H ≡ birth g p e H ++ Starts c (births H + 1) m ∷ []
new_starts g c p m H e k to low = let room : ltb (length (lives H)) 256 ≡ true = lt-ltb (length (lives H)) 256 low in rw (k, to, room) refl

pub nowhere_starts : (g : Config) (c : ℕ) (p : PeerId) (m : Message) (H : List Mark) (why : IgnoreWhy) → life_of p H ≡ None → start_unknown g c p m (endpoint_in (view_of (m ∷ [])).endpoint) H ≡ Ignores c why ∷ []
    → start g c p m (life_of p H) H ≡ Ignores c why ∷ []
nowhere_starts g c p m H why k is = rw k is

pub no_endpoint : (g : Config) (p : PeerId) (m : Message) (H : List Mark) → endpoint_in (view_of (m ∷ [])).endpoint ≡ None → (c : ℕ) → start_unknown g c p m (endpoint_in (view_of (m ∷ [])).endpoint) H ≡ Ignores c ignore.NoEndpoint ∷ []
no_endpoint g p m H e c = rw e refl

pub full : (g : Config) (p : PeerId) (m : Message) (H : List Mark) (to : Endpoint) → endpoint_in (view_of (m ∷ [])).endpoint ≡ Some to → 256 ≤ length (lives H) → (c : ℕ) → start_unknown g c p m (endpoint_in (view_of (m ∷ [])).endpoint) H ≡ Ignores c ignore.Full ∷ []
full g p m H to e high c = let none : ltb (length (lives H)) 256 ≡ false = le-ltb (length (lives H)) 256 high in rw (e, none) refl

-- a birth and a start, with what both tell
pub new_did : (g : Config) (H : List Mark) (t b : Tables) (n : Tables) (c : ℕ) (m : Message) (p : PeerId) (e : Endpoint) (a : Effects) (es : List Event) (s : Effects) → Holds g H t → is_live c H ≡ true → runs c H ≡ None → identity c H ≡ Some p
    → es ≡ a.events ++ events_of p (view_of []) m.body → Did g (birth g p e H) H b (record a { events = es }) s → Holds g (Starts c (births H + 1) m ∷ after (birth g p e H) H) n
    → Did g (birth g p e H ++ Starts c (births H + 1) m ∷ []) H n a s
new_did g H t b n c m p e a es s h live idle who ev d holds =
    let K = after (birth g p e H) H in
    let tells = starts_tell g K b d.holds c m (newborn (births H + 1) p e) p live idle who (newborn_known g H h.keeps.proper p e) refl in
    record {
      holds = holds;
      events = d.events ∙ append-nil es ∙ ev ∙ ap (λ xs. a.events ++ xs) (sym tells);
      acts = d.acts;
      pushed = d.pushed;
    }

pub on_did_as : (g : Config) (hs ks H : List Mark) (t : Tables) (a b : Effects) {T E : Type 0} (r : Result T E) → hs ≡ ks → OnOk r (Did g ks H t a b) → OnOk r (Did g hs H t a b)
on_did_as g hs ks H t a b r e d = rw e d

-- a refusal tells nothing before it
pub untold_did : (g : Config) (hs H : List Mark) (n : Tables) (a : Effects) (es : List Event) (s : Effects) (f : RunFault) (r : Result (Unit {0}) OutOfMemory) → (f ≢ fault.OutOfMemory → es ≡ a.events) → (f ≡ fault.OutOfMemory → is_err r ≡ true)
    → OnOk r (Did g hs H n (record a { events = es }) s) → OnOk r (Did g hs H n a s)
untold_did g hs H n a es s f (Err x) u m d = tt
untold_did g hs H n a es s fault.OutOfMemory (Ok x) u m d = let z : false ≡ true = m refl in absurd cc
untold_did g hs H n a es s fault.NotHello (Ok x) u m d = subst (λ b. Did g hs H n b s) (ap (λ xs. record a { events = xs }) (u (λ e. absurd cc))) d
untold_did g hs H n a es s fault.SecondHello (Ok x) u m d = subst (λ b. Did g hs H n b s) (ap (λ xs. record a { events = xs }) (u (λ e. absurd cc))) d
untold_did g hs H n a es s (fault.Broken p q) (Ok x) u m d = subst (λ b. Did g hs H n b s) (ap (λ xs. record a { events = xs }) (u (λ e. absurd cc))) d
untold_did g hs H n a es s fault.Limit (Ok x) u m d = subst (λ b. Did g hs H n b s) (ap (λ xs. record a { events = xs }) (u (λ e. absurd cc))) d
