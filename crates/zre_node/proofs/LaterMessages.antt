-- A later message on a connection that runs a peer.
use Rattle.std.proofs.Common.{◌≡◌, ℕ, Bool, true, false, not, ◌&&◌, eqb, if◌then◌else◌, List, [], ◌∷◌, ◌++◌, Some, IsSome, Result, Ok, Err, OnOk, refl, sym, ap, ◌∙◌, nat_cmp, subst, eq-eqb, eqb-true, append-nil}
use Rattle.std.specs.BTreeMap.{is_at}
use Rattle.std.specs.Map.{lookup, set_value}
use Rattle.zre_values.specs.declared.peer_id.PeerId.{PeerId}
use Rattle.zre_msg.specs.declared.message.Message.{Message}
use Rattle.std.proofs.lemmas.Bool.{and_parts, not-true}
use Rattle.zre_msg.specs.declared.message.Body.{Body}
use Rattle.zre_msg.specs.declared.message.Body.TheVariants as body
use Rattle.zre_peer.specs.declared.event.Event.{Event}
use Rattle.zre_values.specs.declared.memory.OutOfMemory.{OutOfMemory}
use Rattle.zre_peer.specs.declared.causes.Cause.{Cause}
use Rattle.zre_peer.specs.declared.causes.Cause.TheVariants as cause
use Rattle.zre_peer.specs.declared.peer_run.RunFault.{RunFault}
use Rattle.zre_peer.specs.declared.peer_run.RunFault.TheVariants as fault
use Rattle.zre_peer.specs.Runs.{is_hello, due, may_follow, fault_of, events_of}
use Rattle.zre_peer.specs.Views.{view_of, is_small}
use Rattle.zre_values.specs.declared.settings.Settings.{Settings as Config}
use Rattle.zre_journal.specs.Chronicle.{Mark, Starts, Counts, Ends}
use Rattle.zre_journal.specs.Connections.{runs}
use Rattle.zre_journal.specs.Peers.{Life, lives, life, runner, counted}
use Rattle.zre_journal.specs.Arrivals.{at_later, answer_to}
use Rattle.zre_journal.specs.Pushes.{push}
use Rattle.zre_journal.proofs.ProperAfterMarks.{run_is, Counts-proper, run_known}
use Rattle.zre_journal.proofs.NumberedLists.{eqb-comm, found_passes}
use Rattle.zre_tables.specs.declared.peer.Peer.{Peer}
use Rattle.zre_node.specs.declared.tables.Tables.{Tables}
use Rattle.zre_node.specs.declared.effects.Effects.{Effects}
use Rattle.zre_tables.specs.Tabled.{Tabled}
use Rattle.zre_tables.specs.Runs.{HasRun, HadRun, IsTaken}
use Rattle.zre_node.specs.Stands.{Holds, Nearly, Did, IsPeer, IsBut, IsLeaving, is_ping}
use Rattle.zre_tables.proofs.EntriesOfMaps.{changed}
use Rattle.zre_node.proofs.RowsOfKnownPeers.{its_row, keeps_with, leaves}
use Rattle.zre_journal.specs.Told.{told}
use Rattle.zre_node.proofs.MarksAfterMarks.{did_by}
use Rattle.zre_node.proofs.UnchangedByMarks.{keeps_as}

-- ---- a peer that is run has told something

abbrev pub IsCons : List Message → Type 0
IsCons ms = (d : Message) × (ds : List Message) × (ms ≡ d ∷ ds)

more_is_cons : (ms : List Message) (m : Message) → IsCons (ms ++ m ∷ [])
more_is_cons [] m = (m, [], refl)
more_is_cons (d ∷ ds) m = (d, ds ++ m ∷ [], refl)

pub counted_some : (l c : ℕ) (H : List Mark) → runner l H ≡ Some c → IsCons (counted l H)
counted_some l c [] e = absurd cc
counted_some l c (Starts d k m ∷ H) e = by (counted_some l c H) (eqb l k) refl e
  where
    by : (runner l H ≡ Some c → IsCons (counted l H)) → (b : Bool) → eqb l k ≡ b → runner l (Starts d k m ∷ H) ≡ Some c → IsCons (counted l (Starts d k m ∷ H))
    by r true q z = rw q (more_is_cons (counted l H) m)
    by r false q z = rw q (r (let w : runner l H ≡ Some c = rw q at z in w))
counted_some l c (Counts d k m ∷ H) e = by (counted_some l c H e) (eqb l k) refl
  where
    by : IsCons (counted l H) → (b : Bool) → eqb l k ≡ b → IsCons (counted l (Counts d k m ∷ H))
    by r true q = rw q (more_is_cons (counted l H) m)
    by r false q = rw q r
counted_some l c (_ ∷ H) e = counted_some l c H e

-- ---- what comes about

abbrev pub cause_by : RunFault → Cause
cause_by fault.NotHello = cause.Limit
cause_by fault.SecondHello = cause.Hello
cause_by (fault.Broken d n) = cause.Order d n
cause_by fault.Limit = cause.Limit
cause_by fault.OutOfMemory = cause.Limit

pub refuses_it : (g : Config) (c l : ℕ) (m : Message) (H : List Mark) → IsCons (counted l H) → may_follow (counted l H) m ≡ false → at_later g c l m H ≡ Ends l (cause_by (fault_of (counted l H) m)) ∷ []
refuses_it g c l m H some e = by (counted l H) some.0 some.1 some.2 e
  where
    by : (ms : List Message) (d : Message) (ds : List Message) → ms ≡ d ∷ ds → may_follow ms m ≡ false
        → (if is_hello m.body then Ends l cause.Hello ∷ [] else if not (eqb m.sequence (due ms)) then Ends l (cause.Order (due ms) m.sequence) ∷ []
        else if not (is_small (view_of (ms ++ m ∷ []))) then Ends l cause.Limit ∷ [] else Counts c l m ∷ answer_to g l m.body H) ≡ Ends l (cause_by (fault_of ms m)) ∷ []
    by ms d ds q k = rw q (tests (is_hello m.body) refl (eqb m.sequence (due (d ∷ ds))) refl (is_small (view_of ((d ∷ ds) ++ m ∷ []))) refl (subst (λ xs. may_follow xs m ≡ false) q k))
      where
        tests : (a : Bool) → is_hello m.body ≡ a → (b : Bool) → eqb m.sequence (due (d ∷ ds)) ≡ b → (s : Bool) → is_small (view_of ((d ∷ ds) ++ m ∷ [])) ≡ s → may_follow (d ∷ ds) m ≡ false
            → (if is_hello m.body then Ends l cause.Hello ∷ [] else if not (eqb m.sequence (due (d ∷ ds))) then Ends l (cause.Order (due (d ∷ ds)) m.sequence) ∷ []
            else if not (is_small (view_of ((d ∷ ds) ++ m ∷ []))) then Ends l cause.Limit ∷ [] else Counts c l m ∷ answer_to g l m.body H) ≡ Ends l (cause_by (fault_of (d ∷ ds) m)) ∷ []
        tests true x b y s z k = rw x refl
        tests false x false y s z k = rw (x, y) refl
        tests false x true y false z k = rw (x, y, z) refl
        tests false x true y true z k = let w : true ≡ false = rw (x, y, z) at k in absurd cc

answers_it : (g : Config) (l : ℕ) (b : Body) (H : List Mark) → answer_to g l b H ≡ (if is_ping b then push g l body.PingOk H else [])
answers_it g l body.Ping H = refl
answers_it g l _ H = refl

pub counts_it : (g : Config) (c l : ℕ) (m : Message) (H : List Mark) → IsCons (counted l H) → may_follow (counted l H) m ≡ true → at_later g c l m H ≡ (Counts c l m ∷ []) ++ (if is_ping m.body then push g l body.PingOk H else [])
counts_it g c l m H some e = by (counted l H) some.0 some.1 some.2 e
  where
    by : (ms : List Message) (d : Message) (ds : List Message) → ms ≡ d ∷ ds → may_follow ms m ≡ true
        → (if is_hello m.body then Ends l cause.Hello ∷ [] else if not (eqb m.sequence (due ms)) then Ends l (cause.Order (due ms) m.sequence) ∷ []
        else if not (is_small (view_of (ms ++ m ∷ []))) then Ends l cause.Limit ∷ [] else Counts c l m ∷ answer_to g l m.body H) ≡ Counts c l m ∷ (if is_ping m.body then push g l body.PingOk H else [])
    by ms d ds q k =
        let all = and_parts (not (is_hello m.body) && eqb m.sequence (due (d ∷ ds))) (is_small (view_of ((d ∷ ds) ++ m ∷ []))) (subst (λ xs. may_follow xs m ≡ true) q k) in
        let two = and_parts (not (is_hello m.body)) (eqb m.sequence (due (d ∷ ds))) all.0 in
        let x : is_hello m.body ≡ false = not-true (is_hello m.body) two.0 in
        rw (q, x, two.1, all.1) (ap (λ hs. Counts c l m ∷ hs) (answers_it g l m.body H))

-- ---- at the tables

module _ (g : Config) (H : List Mark) (t : Tables) (h : Holds g H t) (c l : ℕ) (r : runs c H ≡ Some l) (k : Peer) (was : Some k ≡ lookup (is_at (nat_cmp l)) t.peers) where
  pub its : (v : Life) × (life l H ≡ Some v) × IsPeer g H v k
  its = its_row (IsPeer g H) H t.peers h.peers l k was

  link_is : l ≡ its.0.link
  link_is = eqb-true l its.0.link (found_passes (λ (u : Life). eqb l u.link) (lives H) its.0 its.1)

  run_here : runner its.0.link H ≡ Some c
  run_here = ap (λ j. runner j H) (sym link_is) ∙ run_is H h.keeps.proper c l r

  pub some_counted : IsCons (counted l H)
  some_counted = counted_some l c H (run_is H h.keeps.proper c l r)

  -- its run carries what was counted
  pub row_runs : HasRun (Some c) its.0.id (counted l H) k.run
  row_runs = subst (λ ms. HasRun (Some c) its.0.id ms k.run) (ap (λ j. counted j H) (sym link_is)) (subst (λ o. HasRun o its.0.id (counted its.0.link H) k.run) run_here its.2.run_is)

  that : (u : Life) → life l H ≡ Some u → u ≡ its.0
  that u f = let z : Some u ≡ Some its.0 = sym f ∙ its.1 in cc

  pub counts : (m : Message) (w : Peer) (P : List (ℕ × Peer)) → w.id ≡ k.id → w.link ≡ k.link → w.active ≡ t.clock → HasRun (Some c) its.0.id (counted l H ++ m ∷ []) w.run
      → P ≡ set_value (is_at (nat_cmp l)) t.peers w → Holds g (Counts c l m ∷ H) (record t { peers = P })
  counts m w P id link now run put = record {
    keeps = keeps_as g H _ _ _ h.keeps (Counts-proper H h.keeps.proper c l m r) refl (refl, refl, refl) h.keeps.clock_is h.keeps.births_is h.keeps.last_is h.keeps.groups_fit h.keeps.own h.keeps.conns;
    peers = subst (λ es. Tabled (λ (v : Life). v.link) (IsPeer g (Counts c l m ∷ H)) (lives H) es) (sym put)
        (changed (λ (v : Life). v.link) (IsPeer g H) (IsPeer g (Counts c l m ∷ H)) l w
        (λ v x far is. let off : eqb v.link l ≡ false = eqb-comm v.link l ∙ far in rw off is) (lives H) t.peers h.keeps.proper.living.apart
        (λ v f. subst (λ u. IsPeer g (Counts c l m ∷ H) u w) (sym (that v f)) here) h.peers);
  }
    where
      me : eqb its.0.link l ≡ true
      me = eq-eqb its.0.link l (sym link_is)

      runs_on : HasRun (runner its.0.link H) its.0.id (counted its.0.link H ++ m ∷ []) w.run
      runs_on = subst (λ o. HasRun o its.0.id (counted its.0.link H ++ m ∷ []) w.run) (sym run_here) (subst (λ j. HasRun (Some c) its.0.id (counted j H ++ m ∷ []) w.run) link_is run)

      here : IsPeer g (Counts c l m ∷ H) its.0 w
      here = rw me record { id_is = id ∙ its.2.id_is; active_is = now ∙ h.keeps.clock_is; run_is = runs_on; link_is = link ∙ its.2.link_is }

  -- a run that has refused is that of a peer that is to end
  pub breaks : (w : Peer) (P : List (ℕ × Peer)) → w.id ≡ k.id → HadRun (Some c) (counted l H) w.run → P ≡ set_value (is_at (nat_cmp l)) t.peers w → Nearly g H l (record t { peers = P })
  breaks w P id run put = record {
    keeps = keeps_with g H t h.keeps P;
    peers = subst (λ es. Tabled (λ (v : Life). v.link) (IsBut g H l) (lives H) es) (sym put)
        (changed (λ (v : Life). v.link) (IsPeer g H) (IsBut g H l) l w
        (λ v x far is. record { leaving = leaves g H v x is; staying = λ o. is }) (lives H) t.peers h.keeps.proper.living.apart
        (λ v f. record {
          leaving = subst (λ u. IsLeaving H u w) (sym (that v f)) record { id_is = id ∙ its.2.id_is; run_is = had };
          staying = λ off. let here : eqb l v.link ≡ true = found_passes (λ (u : Life). eqb l u.link) (lives H) v f in absurd cc;
        }) h.peers);
  }
    where
      had : HadRun (runner its.0.link H) (counted its.0.link H) w.run
      had = subst (λ o. HadRun o (counted its.0.link H) w.run) (sym run_here) (subst (λ j. HadRun (Some c) (counted j H) w.run) link_is run)

  -- what it tells
  pub its_events : (m : Message) → told (Counts c l m ∷ []) H ≡ events_of its.0.id (view_of (counted l H)) m.body
  its_events m = rw (its.1, ← link_is) (append-nil (events_of its.0.id (view_of (counted l H)) m.body))

pub known_here : (H : List Mark) (l : ℕ) (v : Life) → life l H ≡ Some v → IsSome (life l H)
known_here H l v e = rw e refl

pub counted_did : (g : Config) (H : List Mark) (n : Tables) (c l : ℕ) (m : Message) (a s : Effects) → Holds g (Counts c l m ∷ H) n → s.events ≡ a.events ++ told (Counts c l m ∷ []) H → s.acts ≡ a.acts → s.pushed ≡ a.pushed → Did g (Counts c l m ∷ []) H n a s
counted_did g H n c l m a s h ev ac pu = did_by g (Counts c l m ∷ []) H n a s h ev (ac ∙ sym (append-nil a.acts)) pu (λ j. refl)

-- an end for a refused message, which has told nothing
pub ended_from : (g : Config) (c l : ℕ) (m : Message) (H : List Mark) (n : Tables) (a : Effects) (es : List Event) (s : Effects) (r : Result (Unit {0}) OutOfMemory) → IsCons (counted l H) → may_follow (counted l H) m ≡ false
    → (f : RunFault) → f ≡ fault_of (counted l H) m → es ≡ a.events → OnOk r (Did g (Ends l (cause_by f) ∷ []) H n (record a { events = es }) s) → OnOk r (Did g (at_later g c l m H) H n a s)
ended_from g c l m H n a es s (Ok x) some e f is same d =
    let marks = refuses_it g c l m H some e ∙ ap (λ k. Ends l (cause_by k) ∷ []) (sym is) in
    let from : record a { events = es } ≡ a = ap (λ xs. record a { events = xs }) same in
    rw marks (subst (λ b. Did g (Ends l (cause_by f) ∷ []) H n b s) from d)
ended_from g c l m H n a es s (Err x) some e f is same d = tt

-- a message that makes no run: P are the rows as they are left
pub refused_by : (g : Config) (H : List Mark) (t : Tables) (h : Holds g H t) (c l : ℕ) (r : runs c H ≡ Some l) (k : Peer) (was : Some k ≡ lookup (is_at (nat_cmp l)) t.peers)
    (m : Message) (f : RunFault) (now : ℕ) (P : List (ℕ × Peer)) (n : Tables) (a s : Effects) (es : List Event) (x : Result (Unit {0}) OutOfMemory)
    → ((id : PeerId) → HasRun (Some c) id (counted l H) k.run → (may_follow (counted l H) m ≡ false) × (f ≡ fault_of (counted l H) m) × (es ≡ a.events) × IsTaken l k now (HadRun (Some c) (counted l H)) t.peers P)
    → (Nearly g H l (record t { peers = P }) → IsSome (life l H) → OnOk x (Did g (Ends l (cause_by f) ∷ []) H n (record a { events = es }) s)) → OnOk x (Did g (at_later g c l m H) H n a s)
refused_by g H t h c l r k was m f now P n a s es x told ended =
    let took = told (its g H t h c l r k was).0.id (row_runs g H t h c l r k was) in
    let left = took.3 in
    ended_from g c l m H n a es s x (some_counted g H t h c l r k was) took.0 f took.1 took.2
    (ended (breaks g H t h c l r k was (record k { active = now; run = left.run }) P refl left.its_run left.rows) (run_known H h.keeps.proper c l r))
