-- A tick, at the tables.
use Rattle.std.proofs.Common.{◌≡◌, ℕ, ◌+◌, ◌<◌, zero, suc, Bool, true, false, cond, eqb, ltb, List, [], ◌∷◌, ◌++◌, map, filter, take, length, get_or, Option, Some, None, IsSome, is_some, refl, sym, ap, ◌∙◌, arith, nat_cmp, append_assoc, append-nil, eqb-true, subst}
use Rattle.std.specs.List.{AllByRecursion}
use Rattle.std.specs.BTreeMap.{is_at}
use Rattle.std.specs.Map.{lookup}
use Rattle.std.proofs.lemmas.List.{map-id}
use Rattle.zre_values.specs.declared.peer_id.PeerId.{PeerId}
use Rattle.zre_msg.specs.declared.message.Body.TheVariants as body
use Rattle.zre_msg.specs.declared.message.Message.{Message}
use Rattle.zre_link.specs.Text.{size_of}
use Rattle.zre_outside.specs.declared.entry.Entry.{Entry}
use Rattle.zre_outside.specs.declared.entry.Input.TheVariants as input
use Rattle.zre_peer.specs.declared.causes.Cause.{Cause}
use Rattle.zre_peer.specs.declared.causes.Cause.TheVariants as cause
use Rattle.zre_peer.specs.declared.causes.CloseWhy.{CloseWhy}
use Rattle.zre_peer.specs.declared.causes.CloseWhy.TheVariants as close
use Rattle.zre_peer.specs.declared.event.Event.{Event}
use Rattle.zre_peer.specs.declared.event.Event.TheVariants as event
use Rattle.zre_peer.specs.Runs.{shown}
use Rattle.zre_peer.specs.Standing.{view_in}
use Rattle.zre_values.specs.declared.settings.Settings.{Settings as Config}
use Rattle.zre_journal.specs.Chronicle.{Mark, Ends, Closes, IsEvasive, Puts, SendsBeacon, after, in_turn}
use Rattle.zre_journal.specs.Connections.{open_ones, runs}
use Rattle.zre_journal.specs.Done.{names}
use Rattle.zre_journal.specs.Happens.{at_input}
use Rattle.zre_journal.specs.Ticks.{at_tick, probe, is_silent, is_evasive, is_stale}
use Rattle.zre_journal.specs.Heard.{clock}
use Rattle.zre_journal.specs.Links.{line, unsent}
use Rattle.zre_journal.specs.Peers.{Life, lives, life, runner, counted, view}
use Rattle.zre_journal.specs.Proper.{Apart}
use Rattle.zre_journal.specs.Told.{told, becoming_evasive}
use Rattle.zre_journal.proofs.IdleConnections.{AreNoStarts, ends_start_none, none_and_none}
use Rattle.zre_journal.proofs.JoinedEntries.{after-append}
use Rattle.zre_journal.proofs.ProperAfterMarks.{IsEvasive-proper, SendsBeacon-proper}
use Rattle.zre_journal.proofs.KnownPeers.{ends_keep, life_stays, end_all}
use Rattle.zre_journal.proofs.NumberedLists.{found_passes}
use Rattle.zre_journal.proofs.ExpiringAtTicks.{expiring, wavering, stale, expired, expiring_apart, wavering_apart, wavering_known, expiring_known as are_known, wavering_entered as are_entered, stale_idle as are_idle}
use Rattle.zre_tables.specs.declared.connection.Connection.{Connection}
use Rattle.zre_node.specs.declared.effects.Effects.{Effects}
use Rattle.zre_tables.specs.declared.peer.Peer.{Peer}
use Rattle.zre_tables.specs.declared.peer.CarriedRun.{CarriedRun}
use Rattle.zre_node.specs.declared.tables.Tables.{Tables}
use Rattle.zre_tables.specs.Probing.{IsTold}
use Rattle.zre_tables.specs.Rows.{numbers_of}
use Rattle.zre_tables.specs.Searches.{row_silent, row_evasive, row_stale}
use Rattle.zre_node.specs.Ticks.{probes, IsEntered, AreEntered, AreIdle}
use Rattle.zre_tables.specs.Runs.{HasRun}
use Rattle.zre_node.specs.Stands.{Holds, Did, IsPeer, IsConn, AreKnown, is_quiet}
use Rattle.zre_tables.proofs.RowsThatPass.{numbers_are}
use Rattle.zre_node.proofs.MarksAfterMarks.{did_as, did_by, did_then}
use Rattle.zre_node.proofs.ConnectionsComeAndGo.{with_conns}
use Rattle.zre_node.proofs.RowsOfKnownPeers.{its_row, shows}
use Rattle.zre_node.proofs.BodyOnOneLink.{Alike, alike_after}
use Rattle.zre_node.proofs.StopOfNode.{link_list, map-map, apart_links, known_from}

-- ---- which rows pass

-- a peer is entered where its row has a run
pub enters : (o : Option ℕ) (id : PeerId) (ms : List Message) (r : Option CarriedRun) → HasRun o id ms r → is_some r ≡ is_some o
enters None id ms r h = ap is_some h
enters (Some c) id ms r h = ap is_some h.1

module _ (g : Config) (H : List Mark) (t : Tables) (h : Holds g H t) where
  silent_row : (limit now : ℕ) → now ≡ clock H → (v : Life) (k : Peer) → IsPeer g H v k → row_silent limit now k ≡ is_silent g limit H v
  silent_row limit now e v k is = rw (e, is.active_is) refl

  evasive_row : (evasive expired now : ℕ) → evasive ≡ g.evasive → expired ≡ g.expired → now ≡ clock H → (v : Life) (k : Peer) → IsPeer g H v k → row_evasive evasive expired now k ≡ is_evasive g H v
  evasive_row evasive expired now a b e v k is =
      rw (a, b, enters (runner v.link H) v.id (counted v.link H) k.run is.run_is, silent_row g.expired now e v k is, silent_row g.evasive now e v k is) refl

  stale_row : (limit now : ℕ) → limit ≡ g.expired → now ≡ clock H → (c : ℕ) (k : Connection) → IsConn g H c k → row_stale limit now k ≡ is_stale g H c
  stale_row limit now b e c k is = rw (b, e, is) refl

  pub silent_are : numbers_of (row_silent t.config.expired t.clock) t.peers ≡ link_list (filter (is_silent g g.expired H) (lives H))
  silent_are =
      let same : t.config.expired ≡ g.expired = ap (λ (f : Config). f.expired) h.keeps.config in
      numbers_are (λ (v : Life). v.link) (IsPeer g H) (row_silent t.config.expired t.clock) (is_silent g g.expired H)
      (λ v k is. ap (λ n. row_silent n t.clock k) same ∙ silent_row g.expired t.clock h.keeps.clock_is v k is) (lives H) t.peers h.peers

  pub evasive_are : numbers_of (row_evasive t.config.evasive t.config.expired t.clock) t.peers ≡ link_list (filter (is_evasive g H) (lives H))
  evasive_are =
      numbers_are (λ (v : Life). v.link) (IsPeer g H) (row_evasive t.config.evasive t.config.expired t.clock) (is_evasive g H)
      (evasive_row t.config.evasive t.config.expired t.clock (ap (λ (f : Config). f.evasive) h.keeps.config) (ap (λ (f : Config). f.expired) h.keeps.config) h.keeps.clock_is) (lives H) t.peers h.peers

  pub stale_are : numbers_of (row_stale t.config.expired t.clock) t.conns ≡ filter (is_stale g H) (open_ones H)
  stale_are =
      numbers_are (λ (c : ℕ). c) (IsConn g H) (row_stale t.config.expired t.clock) (is_stale g H)
      (stale_row t.config.expired t.clock (ap (λ (f : Config). f.expired) h.keeps.config) h.keeps.clock_is) (open_ones H) t.conns h.keeps.conns
      ∙ map-id (filter (is_stale g H) (open_ones H))

-- ---- EVASIVE

module _ (g : Config) (K : List Mark) (t : Tables) (h : Holds g K t) where
  pub holds_probes : (l : ℕ) → Holds g (IsEvasive l ∷ K) t
  holds_probes l = with_conns g K (IsEvasive l ∷ K) t t.last t.conns h (IsEvasive-proper K h.keeps.proper l) refl refl refl h.peers refl refl refl h.keeps.last_is h.keeps.conns

  pub holds_calls : (port : ℕ) → Holds g (SendsBeacon port ∷ K) t
  holds_calls port = with_conns g K (SendsBeacon port ∷ K) t t.last t.conns h (SendsBeacon-proper K h.keeps.proper port) refl refl refl h.peers refl refl refl h.keeps.last_is h.keeps.conns

run_shows : (o : Option ℕ) (id : PeerId) (ms : List Message) (r : Option CarriedRun) (x : CarriedRun) → HasRun o id ms r → r ≡ Some x → view_in x.run ≡ shown ms
run_shows None id ms r x h e = let z : None ≡ Some x = sym h ∙ e in absurd cc
run_shows (Some c) id ms r x h e = let z : Some h.0 ≡ Some x = sym h.1 ∙ e in let same : h.0 ≡ x = cc in subst (λ (y : CarriedRun). view_in y.run ≡ shown ms) same (shows h.0 c id ms h.2).1

-- what is told of an entered peer that is evasive, by its row
pub record Wavers (g : Config) (K : List Mark) (l : ℕ) (k : Peer) (x : CarriedRun) : Type 0 where
  pub its_view : view_in x.run ≡ shown (counted l K)
  pub tells : told (IsEvasive l ∷ []) K ≡ event.Evasive k.id (view l K).name ∷ []

pub wavers : (g : Config) (K : List Mark) (t : Tables) → Holds g K t → (l : ℕ) (k : Peer) → Some k ≡ lookup (is_at (nat_cmp l)) t.peers → (x : CarriedRun) → k.run ≡ Some x → Wavers g K l k x
wavers g K t h l k was x e =
    let its = its_row (IsPeer g K) K t.peers h.peers l k was in
    let here : l ≡ its.0.link = found_link its.0 its.1 in
    record {
      its_view = run_shows (runner its.0.link K) its.0.id (counted its.0.link K) k.run x its.2.run_is e ∙ ap (λ n. shown (counted n K)) (sym here);
      tells = ap (λ o. becoming_evasive o K ++ []) its.1 ∙ ap (λ i. event.Evasive i (view its.0.link K).name ∷ []) (sym its.2.id_is)
          ∙ ap (λ n. event.Evasive k.id (view n K).name ∷ []) (sym here);
    }
  where
    found_link : (v : Life) → life l K ≡ Some v → l ≡ v.link
    found_link v f = eqb-true l v.link (found_passes (λ (u : Life). eqb l u.link) (lives K) v f)

-- an entered peer has a run
pub has_run : {C : Type 0} (g : Config) (K : List Mark) (t : Tables) → Holds g K t → (l : ℕ) (k : Peer) → Some k ≡ lookup (is_at (nat_cmp l)) t.peers → is_some (runner l K) ≡ true → k.run ≡ None → C
has_run g K t h l k was r e =
    let its = its_row (IsPeer g K) K t.peers h.peers l k was in
    let here : l ≡ its.0.link = eqb-true l its.0.link (found_passes (λ (u : Life). eqb l u.link) (lives K) its.0 its.1) in
    let none : false ≡ is_some (runner l K) = ap is_some (sym e) ∙ enters (runner its.0.link K) its.0.id (counted its.0.link K) k.run its.2.run_is ∙ ap (λ n. is_some (runner n K)) (sym here) in
    let z : false ≡ true = none ∙ r in absurd cc

-- EVASIVE was told of an entered peer
pub told_so : (g : Config) (K : List Mark) (t : Tables) → Holds g K t → (l : ℕ) (k : Peer) → Some k ≡ lookup (is_at (nat_cmp l)) t.peers → is_some (runner l K) ≡ true
    → (a : Effects) (es : List Event) → IsTold k a.events es → Did g (IsEvasive l ∷ []) K t a (record a { events = es })
told_so g K t h l k was r a es is = by k.run refl
  where
    by : (o : Option CarriedRun) → k.run ≡ o → Did g (IsEvasive l ∷ []) K t a (record a { events = es })
    by None e = has_run g K t h l k was r e
    by (Some x) e =
        let w = wavers g K t h l k was x e in
        did_by g (IsEvasive l ∷ []) K t a (record a { events = es }) (holds_probes g K t h l)
        (is.entered x (counted l K) e w.its_view ∙ ap (λ (fs : List Event). a.events ++ fs) (sym w.tells)) (sym (append-nil a.acts)) refl (λ n. refl)

-- ---- one after the other

ends_alike : (why : Cause) (vs : List Life) (K : List Mark) → Alike (after (end_all why vs) K) K
ends_alike why vs K = ends_keep (λ J. Alike J K) (λ l w J a. a) why vs K (λ l. (refl, refl))

module _ (g : Config) where
  probes_alike : (l : ℕ) (J K : List Mark) → Alike J K → probes g l J ≡ probes g l K
  probes_alike l J K a = rw ((a l).0, (a l).1) refl

  -- those of links are those of lives, also where they were found before
  pub probes_are : (vs : List Life) (J K : List Mark) → Alike J K → in_turn (probes g) (link_list vs) J ≡ probe g vs K
  probes_are [] J K a = refl
  probes_are (v ∷ vs) J K a =
      ap (λ hs. hs ++ in_turn (probes g) (link_list vs) (after hs J)) (probes_alike v.link J K a)
      ∙ ap (λ hs. probes g v.link K ++ hs) (probes_are vs (after (probes g v.link K) J) (after (probes g v.link K) K) (alike_after (probes g v.link K) J K a))

  ends_entered : (l : ℕ) (why : Cause) (K : List Mark) (ls : List ℕ) → AllByRecursion (λ k. eqb l k ≡ false) ls → AreEntered K ls → AreEntered (Ends l why ∷ K) ls
  ends_entered l why K [] far k = tt
  ends_entered l why K (m ∷ ls) far k = ((subst IsSome (sym (life_stays K l m why far.0)) k.0.0, k.0.1), k.1, ends_entered l why K ls far.1 k.2)

  same_entered : (J K : List Mark) → ((l : ℕ) → life l J ≡ life l K) → ((l : ℕ) → runner l J ≡ runner l K) → (ls : List ℕ) → AreEntered K ls → AreEntered J ls
  same_entered J K a b [] k = tt
  same_entered J K a b (m ∷ ls) k = ((subst IsSome (sym (a m)) k.0.0, ap is_some (b m) ∙ k.0.1), k.1, same_entered J K a b ls k.2)

  still_entered : (l : ℕ) (K : List Mark) (ls : List ℕ) → AllByRecursion (λ k. eqb l k ≡ false) ls → AreEntered K ls → AreEntered (after (probes g l K) K) ls
  still_entered l K ls far k = by (ltb 4194304 (unsent g l K + size_of (line l K) body.Ping))
    where
      here : AreEntered (IsEvasive l ∷ K) ls
      here = same_entered (IsEvasive l ∷ K) K (λ m. refl) (λ m. refl) ls k

      by : (b : Bool) → AreEntered (after (cond b (Ends l (cause.Slow (unsent g l K) (size_of (line l K) body.Ping)) ∷ []) (Puts l body.Ping ∷ [])) (IsEvasive l ∷ K)) ls
      by true = ends_entered l (cause.Slow (unsent g l K) (size_of (line l K) body.Ping)) (IsEvasive l ∷ K) ls far here
      by false = same_entered (Puts l body.Ping ∷ IsEvasive l ∷ K) (IsEvasive l ∷ K) (λ m. refl) (λ m. refl) ls here

  -- each is entered when its turn comes
  pub entered_at : (ls : List ℕ) (K : List Mark) (i : ℕ) → i < length ls → AreEntered K ls → IsEntered (get_or ls i 0) (after (in_turn (probes g) (take i ls) K) K)
  entered_at [] K i low k = absurd (omega arith)
  entered_at (l ∷ ls) K zero low k = k.0
  entered_at (l ∷ ls) K (suc i) low k =
      let J = after (probes g l K) K in
      subst (λ I. IsEntered (get_or ls i 0) I) (sym (after-append (probes g l K) (in_turn (probes g) (take i ls) J) K)) (entered_at ls J i (omega arith) (still_entered l K ls k.1 k.2))

  probes_start_none : (ls : List ℕ) (K : List Mark) → AreNoStarts (in_turn (probes g) ls K)
  probes_start_none [] K = tt
  probes_start_none (l ∷ ls) K = none_and_none (probes g l K) (in_turn (probes g) ls (after (probes g l K) K)) (λ c. refl, by (ltb 4194304 (unsent g l K + size_of (line l K) body.Ping))) (probes_start_none ls (after (probes g l K) K))
    where
      by : (b : Bool) → AreNoStarts (cond b (Ends l (cause.Slow (unsent g l K) (size_of (line l K) body.Ping)) ∷ []) (Puts l body.Ping ∷ []))
      by true = (λ c. refl, tt)
      by false = (λ c. refl, tt)

-- ---- connections that have waited

-- each runs no peer when its turn comes
pub idle_at : (why : CloseWhy) (cs : List ℕ) (H : List Mark) (i : ℕ) → i < length cs → AreIdle H cs → runs (get_or cs i 0) (after (map (λ c. Closes c why) (take i cs)) H) ≡ None
idle_at why [] H i low k = absurd (omega arith)
idle_at why (c ∷ cs) H zero low k = k.0
idle_at why (c ∷ cs) H (suc i) low k = idle_at why cs (Closes c why ∷ H) i (omega arith) (same cs k.1)
  where
    same : (ds : List ℕ) → AreIdle H ds → AreIdle (Closes c why ∷ H) ds
    same [] m = tt
    same (d ∷ ds) m = (m.0, same ds m.1)

-- ---- the whole tick

entered_from : (K : List Mark) (vs : List Life) → Apart (λ (v : Life). v.link) vs → AllByRecursion (λ (v : Life). IsSome (life v.link K)) vs → AllByRecursion (λ (v : Life). is_some (runner v.link K) ≡ true) vs → AreEntered K (link_list vs)
entered_from K [] a k e = tt
entered_from K (v ∷ vs) a k e = ((k.0, e.0), apart_links v.link vs a.0, entered_from K vs a.1 k.1 e.1)

-- the chronicle where those that expire have ended, and the others have probed
abbrev pub probed : Config → List Mark → List Mark
probed g K = after (in_turn (probes g) (link_list (wavering g K)) (expired g K)) (expired g K)

module _ (g : Config) (K : List Mark) (t : Tables) (h : Holds g K t) where
  -- those that expire are known
  pub expiring_known : (ls : List ℕ) → ls ≡ link_list (expiring g K) → AreKnown K ls
  expiring_known ls e = subst (AreKnown K) (sym e) (known_from K (expiring g K) (expiring_apart g K h.keeps.proper) (are_known g K))

  pub expire : (ls : List ℕ) (n : Tables) (a b : Effects) → ls ≡ link_list (expiring g K) → Did g (map (λ l. Ends l cause.Expired) ls) K n a b → Did g (end_all cause.Expired (expiring g K)) K n a b
  expire ls n a b e d =
      did_as g (end_all cause.Expired (expiring g K)) (map (λ l. Ends l cause.Expired) ls) K n a b
      (sym (ap (λ ks. map (λ l. Ends l cause.Expired) ks) e ∙ map-map (λ (v : Life). v.link) (λ l. Ends l cause.Expired) (expiring g K))) d

  -- the others are entered after their ends
  pub wavering_entered : (ls : List ℕ) → ls ≡ link_list (wavering g K) → AreEntered (expired g K) ls
  wavering_entered ls e = subst (AreEntered (expired g K)) (sym e)
      (entered_from (expired g K) (wavering g K) (wavering_apart g K h.keeps.proper) (wavering_known g K h.keeps.proper) (are_entered g K))

  pub probe_then : (ls : List ℕ) (n : Tables) (a b : Effects) → ls ≡ link_list (wavering g K) → Did g (in_turn (probes g) ls (expired g K)) (expired g K) n a b → Did g (in_turn (probes g) (link_list (wavering g K)) (expired g K)) (expired g K) n a b
  probe_then ls n a b e d = subst (λ ks. Did g (in_turn (probes g) ks (expired g K)) (expired g K) n a b) e d

  -- the connections run no peer even then
  pub stale_idle : (cs : List ℕ) → cs ≡ stale g K → AreIdle (probed g K) cs
  stale_idle cs e =
      let E = end_all cause.Expired (expiring g K) in
      let F = in_turn (probes g) (link_list (wavering g K)) (expired g K) in
      subst (AreIdle (probed g K)) (sym e) (subst (λ J. AllByRecursion (λ c. runs c J ≡ None) (stale g K)) (after-append E F K)
      (are_idle g K (E ++ F) (none_and_none E F (ends_start_none cause.Expired (expiring g K)) (probes_start_none g (link_list (wavering g K)) (expired g K)))))

-- the marks of a tick, as they were left
tick_marks : (g : Config) (K : List Mark) → at_tick g K ≡ end_all cause.Expired (expiring g K) ++ in_turn (probes g) (link_list (wavering g K)) (expired g K) ++ map (λ c. Closes c close.Timeout) (stale g K) ++ SendsBeacon g.port ∷ []
tick_marks g K =
    ap (λ hs. end_all cause.Expired (expiring g K) ++ hs ++ map (λ c. Closes c close.Timeout) (stale g K) ++ SendsBeacon g.port ∷ [])
    (sym (probes_are g (wavering g K) (expired g K) K (ends_alike cause.Expired (expiring g K) K)))

-- the whole tick from its parts
pub ticks : (g : Config) (K : List Mark) (cs : List ℕ) (t n m : Tables) (a b c d e : Effects) → cs ≡ stale g K → Did g (end_all cause.Expired (expiring g K)) K t a b
    → Did g (in_turn (probes g) (link_list (wavering g K)) (expired g K)) (expired g K) n b c → Did g (map (λ k. Closes k close.Timeout) cs) (probed g K) m c d
    → Did g (SendsBeacon g.port ∷ []) (after (map (λ k. Closes k close.Timeout) cs) (probed g K)) m d e → Did g (at_tick g K) K m a e
ticks g K cs t n m a b c d e is first second third fourth =
    let E = end_all cause.Expired (expiring g K) in
    let F = in_turn (probes g) (link_list (wavering g K)) (expired g K) in
    let C = map (λ k. Closes k close.Timeout) cs in
    let Z = SendsBeacon g.port ∷ [] in
    did_as g (at_tick g K) (E ++ (F ++ (C ++ Z))) K m a e
    (tick_marks g K ∙ ap (λ ks. E ++ F ++ map (λ k. Closes k close.Timeout) ks ++ Z) (sym is) ∙ append_assoc (E ++ F) C Z ∙ append_assoc E F (C ++ Z))
    (did_then g E (F ++ (C ++ Z)) K t m a b e first (did_then g F (C ++ Z) (expired g K) n m b c e second (did_then g C Z (probed g K) m m c d e third fourth)))

-- ---- its entry

pub tick_named : (e : Entry) → e.input ≡ input.Tick → ((l : ℕ) → names l e.input ≡ false) × (is_quiet e.input ≡ true)
tick_named e is = (λ l. rw is refl, rw is refl)

pub tick_input : (g : Config) (e : Entry) (H K : List Mark) → e.input ≡ input.Tick → at_input g e.input H K ≡ at_tick g K
tick_input g e H K is = ap (λ i. at_input g i H K) is
