-- The end of a known peer, at the tables.
use Rattle.std.proofs.Common.{◌≡◌, ℕ, ◌≤◌, Bool, true, false, not, ◌||◌, eqb, List, [], ◌∷◌, ◌++◌, Option, Some, None, is_some, append-nil, refl, sym, ap, ◌∙◌, nat_cmp, eqb-true, eq-eqb, subst}
use Rattle.std.specs.BTreeMap.{is_at}
use Rattle.std.specs.Map.{lookup, set_value}
use Rattle.std.specs.List.{list_any}
use Rattle.zre_values.specs.declared.peer_id.PeerId.{PeerId}
use Rattle.zre_peer.specs.declared.causes.Cause.{Cause}
use Rattle.zre_peer.specs.declared.event.Event.TheVariants as event
use Rattle.zre_peer.specs.Views.{view_of}
use Rattle.zre_values.specs.declared.settings.Settings.{Settings as Config}
use Rattle.zre_journal.specs.Chronicle.{Mark, Ends, ever}
use Rattle.zre_journal.specs.Heard.{clock, bytes}
use Rattle.zre_journal.specs.Connections.{runs, open_ones, is_open, has_ended, started, is_ignored, is_live, refuses}
use Rattle.zre_journal.specs.Peers.{life, births, runner, counted}
use Rattle.zre_journal.specs.Told.{exit}
use Rattle.zre_journal.specs.Done.{close_link}
use Rattle.zre_journal.proofs.ProperAfterMarks.{known_lives, run_is, Ends-proper}
use Rattle.zre_journal.proofs.NumberedLists.{eqb-comm, found_any, none_any, found_passes}
use Rattle.zre_tables.specs.declared.peer.Peer.{Peer}
use Rattle.zre_tables.specs.declared.peer.CarriedRun.{CarriedRun}
use Rattle.zre_msg.specs.declared.message.Message.{Message}
use Rattle.zre_peer.specs.Runs.{shown}
use Rattle.zre_peer.specs.Standing.{view_in}
use Rattle.zre_tables.specs.declared.connection.Connection.{Connection}
use Rattle.zre_node.specs.declared.tables.Tables.{Tables}
use Rattle.zre_node.specs.declared.effects.Effects.{Effects}
use Rattle.zre_tables.specs.Tabled.{Tabled}
use Rattle.zre_tables.specs.Runs.{HadRun}
use Rattle.zre_node.specs.Stands.{Holds, Keeps, Parted, Did, IsConn, kept_conn, heard_by}
use Rattle.zre_tables.proofs.EntriesOfMaps.{Row, Is, IsNone, row, changed, retold}
use Rattle.zre_node.proofs.MarksAfterMarks.{or-nil}
use Rattle.zre_node.proofs.UnchangedByMarks.{keeps_as}

-- ---- connections, by number

-- an open connection has its row
pub conn_row : (g : Config) (H : List Mark) (t : Tables) → Keeps g H t → (c : ℕ) → is_open c H ≡ true → lookup (is_at (nat_cmp c)) t.conns ≡ Some (kept_conn g H c)
conn_row g H t k c o = by (row (λ (d : ℕ). d) (IsConn g H) c (open_ones H) t.conns k.conns)
  where
    by : Row (λ (d : ℕ). d) (IsConn g H) c (open_ones H) (lookup (is_at (nat_cmp c)) t.conns) → lookup (is_at (nat_cmp c)) t.conns ≡ Some (kept_conn g H c)
    by (Is d w f e q p) = e ∙ ap (λ (x : Connection). Some x) p ∙ ap (λ x. Some (kept_conn g H x)) (sym (eqb-true c d q))
    by (IsNone f e) = let z : false ≡ true = sym (none_any (eqb c) (open_ones H) f) ∙ o in cc

-- a row is that of an open connection
pub row_conn : (g : Config) (H : List Mark) (t : Tables) → Keeps g H t → (c : ℕ) (x : Connection) → Some x ≡ lookup (is_at (nat_cmp c)) t.conns → (is_open c H ≡ true) × (x ≡ kept_conn g H c)
row_conn g H t k c x e = by (row (λ (d : ℕ). d) (IsConn g H) c (open_ones H) t.conns k.conns)
  where
    by : Row (λ (d : ℕ). d) (IsConn g H) c (open_ones H) (lookup (is_at (nat_cmp c)) t.conns) → (is_open c H ≡ true) × (x ≡ kept_conn g H c)
    by (Is d w f o q p) = let z : Some x ≡ Some w = e ∙ o in let same : x ≡ w = cc in (found_any (eqb c) (open_ones H) d f, same ∙ p ∙ ap (kept_conn g H) (sym (eqb-true c d q)))
    by (IsNone f o) = let z : Some x ≡ None = e ∙ o in cc

-- no row is that of one that isn't open
pub no_conn : (g : Config) (H : List Mark) (t : Tables) → Keeps g H t → (c : ℕ) → None ≡ lookup (is_at (nat_cmp c)) t.conns → is_open c H ≡ false
no_conn g H t k c e = by (row (λ (d : ℕ). d) (IsConn g H) c (open_ones H) t.conns k.conns)
  where
    by : Row (λ (d : ℕ). d) (IsConn g H) c (open_ones H) (lookup (is_at (nat_cmp c)) t.conns) → is_open c H ≡ false
    by (Is d w f o q p) = let z : None ≡ Some w = e ∙ o in cc
    by (IsNone f o) = none_any (eqb c) (open_ones H) f

-- ---- what an end leaves of the connections

module _ (g : Config) (H : List Mark) (l : ℕ) (why : Cause) (alive : has_ended l H ≡ false) where
  -- a connection that doesn't run the peer is as before
  pub unmoved : (c : ℕ) → (runs c H ≡ Some l → ⊥) → kept_conn g H c ≡ kept_conn g (Ends l why ∷ H) c
  unmoved c other = by (started c H) refl
    where
      by : (s : Option ℕ) → started c H ≡ s → kept_conn g H c ≡ kept_conn g (Ends l why ∷ H) c
      by None e = rw e refl
      by (Some k) e = elsewhere (eqb k l) refl (has_ended k H) refl
        where
          elsewhere : (b : Bool) → eqb k l ≡ b → (d : Bool) → has_ended k H ≡ d → kept_conn g H c ≡ kept_conn g (Ends l why ∷ H) c
          elsewhere true q d u = absurd (other (rw (e, ap (λ m. has_ended m H) (eqb-true k l q) ∙ alive) (ap (λ m. Some m) (eqb-true k l q))))
          elsewhere false q true u = rw (e, q, u) refl
          elsewhere false q false u = let back : eqb l k ≡ false = eqb-comm l k ∙ q in rw (e, q, u, back) refl

  -- the one that runs it is ignored from now on
  pub ignored : (c : ℕ) → runs c H ≡ Some l → started c H ≡ Some l → kept_conn g (Ends l why ∷ H) c ≡ record (kept_conn g H c) { since = clock H; run = None; conn = None }
  ignored c r s = let me : eqb l l ≡ true = eq-eqb l l refl in let deaf = by (ever (refuses c) H) in rw (r, s, me, deaf) refl
    where
      by : (b : Bool) → heard_by (b || true) g.id (bytes c H) ≡ None
      by true = refl
      by false = refl

-- ---- a peer that was taken out of its table

had_some : (o : Option ℕ) (ms : List Message) (r : Option CarriedRun) (x : CarriedRun) → HadRun o ms r → r ≡ Some x → (o ≡ Some x.conn) × (view_in x.run ≡ shown ms)
had_some None ms r x h e = let z : None ≡ Some x = sym h ∙ e in cc
had_some (Some c) ms r x h e = let z : Some h.0 ≡ Some x = sym h.1 ∙ e in let same : h.0 ≡ x = cc in
    (ap (λ n. Some n) (sym h.2) ∙ ap (λ (y : CarriedRun). Some y.conn) same, ap (λ (y : CarriedRun). view_in y.run) (sym same) ∙ h.3)

had_none : (o : Option ℕ) (ms : List Message) (r : Option CarriedRun) → HadRun o ms r → r ≡ None → o ≡ None
had_none None ms r h e = refl
had_none (Some c) ms r h e = let z : Some h.0 ≡ None = sym h.1 ∙ e in cc

module _ (g : Config) (H : List Mark) (l : ℕ) (k : Peer) (t : Tables) (p : Parted g H l k t) (why : Cause) where
  known : (has_ended l H ≡ false) × (l ≤ births H) × (l ≡ p.gone.link)
  known = known_lives H p.keeps.proper l p.gone p.known

  with_conns : (C : List (ℕ × Connection)) → Tabled (λ (c : ℕ). c) (IsConn g (Ends l why ∷ H)) (open_ones H) C → Holds g (Ends l why ∷ H) (record t { conns = C })
  with_conns C conns = record {
    keeps = keeps_as g H _ _ _ p.keeps (Ends-proper H p.keeps.proper l why known.1) refl (refl, refl, refl) p.keeps.clock_is p.keeps.births_is p.keeps.last_is p.keeps.groups_fit p.keeps.own conns;
    peers = p.peers;
  }

  -- the name and the id are those of the life
  its_exit : is_some (runner l H) ≡ true → exit (life l H) why H ≡ event.Exit k.id (view_of (counted l H)).name why ∷ []
  its_exit r = rw (p.known, p.leaving.id_is, known.2) (let e : is_some (runner p.gone.link H) ≡ true = subst (λ m. is_some (runner m H) ≡ true) known.2 r in rw e refl)

  no_exit : runner l H ≡ None → exit (life l H) why H ≡ []
  no_exit r = rw p.known (let e : runner p.gone.link H ≡ None = subst (λ m. runner m H ≡ None) known.2 r in rw e refl)

  ended : (C : List (ℕ × Connection)) (a s : Effects) → Holds g (Ends l why ∷ H) (record t { conns = C }) → s.events ≡ a.events ++ exit (life l H) why H
      → s.acts ≡ a.acts ++ close_link l why → s.pushed ≡ a.pushed → Did g (Ends l why ∷ []) H (record t { conns = C }) a s
  ended C a s h ev ac pu = record {
    holds = h;
    events = ev ∙ ap (λ es. a.events ++ es) (sym (append-nil (exit (life l H) why H)));
    acts = ac ∙ ap (λ es. a.acts ++ es) (sym (append-nil (close_link l why)));
    pushed = λ j. ap (λ (ks : List ℕ). list_any (eqb j) ks) pu ∙ or-nil (list_any (eqb j) a.pushed);
  }

  -- it was entered: its run, and what it shows
  pub entered : (x : CarriedRun) → k.run ≡ Some x → (runner l H ≡ Some x.conn) × (view_in x.run ≡ shown (counted l H))
  entered x e = let h = had_some (runner p.gone.link H) (counted p.gone.link H) k.run x p.leaving.run_is e in
      (ap (λ m. runner m H) known.2 ∙ h.0, h.1 ∙ ap (λ m. shown (counted m H)) (sym known.2))

  pub with_run : (x : CarriedRun) → k.run ≡ Some x → (C : List (ℕ × Connection))
      → ((y : Connection) → lookup (is_at (nat_cmp x.conn)) t.conns ≡ Some y → C ≡ set_value (is_at (nat_cmp x.conn)) t.conns (record y { since = t.clock; run = None; conn = None }))
      → (a s : Effects) → s.events ≡ a.events ++ event.Exit k.id (view_of (counted l H)).name why ∷ [] → s.acts ≡ a.acts ++ close_link l why → s.pushed ≡ a.pushed
      → Did g (Ends l why ∷ []) H (record t { conns = C }) a s
  with_run x e C set a s ev ac pu =
      let r = (entered x e).0 in
      let q = p.keeps.proper.running in
      let s0 : started x.conn H ≡ Some l = q.its_run x.conn l r known.0 in
      let runs_it : runs x.conn H ≡ Some l = rw (s0, known.0) refl in
      let there = q.is_heard x.conn l r known.0 in
      let old = conn_row g H t p.keeps x.conn there in
      let at : C ≡ set_value (is_at (nat_cmp x.conn)) t.conns (record (kept_conn g H x.conn) { since = clock H; run = None; conn = None }) =
      set (kept_conn g H x.conn) old ∙ ap (λ n. set_value (is_at (nat_cmp x.conn)) t.conns (record (kept_conn g H x.conn) { since = n; run = None; conn = None })) p.keeps.clock_is in
      let conns = changed (λ (c : ℕ). c) (IsConn g H) (IsConn g (Ends l why ∷ H)) x.conn (record (kept_conn g H x.conn) { since = clock H; run = None; conn = None })
      (λ c w far is. is ∙ unmoved g H l why known.0 c (λ z. let same : Some x.conn ≡ Some c = sym r ∙ run_is H p.keeps.proper c l z in let u : x.conn ≡ c = cc in let w : true ≡ false = sym (eq-eqb x.conn c u) ∙ far in cc))
      (open_ones H) t.conns p.keeps.proper.opening.open_apart
      (λ c f. let u : x.conn ≡ c = eqb-true x.conn c (found_passes (eqb x.conn) (open_ones H) c f) in subst (λ d. record (kept_conn g H x.conn) { since = clock H; run = None; conn = None } ≡ kept_conn g (Ends l why ∷ H) d) u (sym (ignored g H l why known.0 x.conn runs_it s0)))
      p.keeps.conns in
      ended C a s (with_conns C (subst (λ es. Tabled (λ (c : ℕ). c) (IsConn g (Ends l why ∷ H)) (open_ones H) es) (sym at) conns))
      (ev ∙ ap (λ es. a.events ++ es) (sym (its_exit (rw r refl)))) ac pu

  pub without_run : k.run ≡ None → (a s : Effects) → s.events ≡ a.events → s.acts ≡ a.acts ++ close_link l why → s.pushed ≡ a.pushed → Did g (Ends l why ∷ []) H t a s
  without_run e a s ev ac pu =
      let r : runner l H ≡ None = ap (λ m. runner m H) known.2 ∙ had_none (runner p.gone.link H) (counted p.gone.link H) k.run p.leaving.run_is e in
      ended t.conns a s (with_conns t.conns (retold (λ (c : ℕ). c) (IsConn g H) (IsConn g (Ends l why ∷ H))
      (λ c w is. is ∙ unmoved g H l why known.0 c (λ z. let u : None ≡ Some c = sym r ∙ run_is H p.keeps.proper c l z in cc)) (open_ones H) t.conns p.keeps.conns))
      (ev ∙ sym (append-nil a.events) ∙ ap (λ es. a.events ++ es) (sym (no_exit r))) ac pu

-- whether a number has a row
pub some_row : (g : Config) (H : List Mark) (t : Tables) → Keeps g H t → (c : ℕ) → is_some (lookup (is_at (nat_cmp c)) t.conns) ≡ is_open c H
some_row g H t k c = by (lookup (is_at (nat_cmp c)) t.conns) refl
  where
    by : (o : Option Connection) → lookup (is_at (nat_cmp c)) t.conns ≡ o → is_some o ≡ is_open c H
    by None e = sym (no_conn g H t k c (sym e))
    by (Some x) e = sym (row_conn g H t k c x (sym e)).0

-- ---- live connections

pub heard_some : (b : Bool) (own : PeerId) (o : List ℕ) → is_some (heard_by b own o) ≡ not b
heard_some true own o = refl
heard_some false own o = refl

not_not : (b c : Bool) → not b ≡ c → b ≡ not c
not_not true c e = ap not e
not_not false c e = ap not e

-- what its row says of an open connection
pub live_by : (g : Config) (H : List Mark) (c : ℕ) (x : Connection) → is_open c H ≡ true → x ≡ kept_conn g H c → is_live c H ≡ is_some x.conn
live_by g H c x o e = rw o (sym (ap (λ (y : Connection). is_some y.conn) e ∙ heard_some (is_ignored c H) g.id (bytes c H)))

pub not_live : (c : ℕ) (H : List Mark) → is_open c H ≡ false → is_live c H ≡ false
not_live c H e = rw e refl
