-- A connection opens.
use Rattle.std.proofs.Common.{◌≡◌, ◌⊎◌, ℕ, ◌+◌, Bool, true, false, ◌&&◌, is_some, List, [], ◌∷◌, ◌++◌, length, Some, None, refl, sym, ap, ◌∙◌, subst, inl, inr, arith}
use Rattle.std.specs.Prelude.{sum_by, option_map}
use Rattle.std.specs.List.{list_all}
use Rattle.std.proofs.lemmas.List.Sums.{sum_by_push}
use Rattle.zre_outside.specs.declared.entry.Input.TheVariants as input
use Rattle.zre_mailbox.specs.Conn.{conn_after}
use Rattle.zre_journal.specs.Chronicle.{followed}
use Rattle.zre_net.specs.declared.moves.Move.TheVariants as move
use Rattle.zre_net.specs.declared.running.network.Network.{Network}
use Rattle.zre_net.specs.declared.running.rows.Carrier.{Carrier}
use Rattle.zre_net.specs.declared.running.rows.Started.{Started}
use Rattle.zre_net.specs.declared.running.rows.Way.{Way}
use Rattle.zre_net.specs.Comes.{turn_of, turn}
use Rattle.zre_net.specs.History.{Incarnation, Happening, Happens, IsKnown, incarnations, running as running_in, journal}
use Rattle.zre_net.specs.Lists.{nth}
use Rattle.zre_net.specs.Numbers.{Route, CarriedConn, routes, conns, conn_of}
use Rattle.zre_net.specs.Grammar.{may_come}
use Rattle.zre_net.specs.Lines.{octets_in}
use Rattle.zre_net.specs.Said.{said_in, IsRest}
use Rattle.zre_net.specs.Rows.{Fits, running_at, has_node, OnlyRunning, fits_owner}
use Rattle.zre_net.specs.Running.{AreNodes, IsConn, HasConn, StandsAfter, AreStarted, Finds, IsPlayed, way_of}
use Rattle.zre_net.proofs.ConnectionsAfterEntry.{known_later, conn_still, silent_more}
use Rattle.zre_net.proofs.ReadSideAfterEntry.{fits_new}
use Rattle.zre_net.proofs.ListsCountedFromOne.{some_one, nth_more, nth_last, nth_cases}
use Rattle.zre_net.proofs.MovesWithEntries.{still, played, runs_there, Runs, not_running, link_found, IsLinkFound, no_link}
use Rattle.zre_net.proofs.JournalsOfIncarnations.{chronicle_now, length-last}
use Rattle.zre_net.proofs.NothingWaitsUnnumbered.{no_pending}

-- ---- one opens

module _ (H : List Happening) (g n at : ℕ) (net new : Network) (s : StandsAfter H net) (a : Incarnation) (r : Route) (known : IsKnown H a) (runs : running_in n H ≡ Some a) (route : nth g (routes H) ≡ Some r) (r_known : IsKnown H r.from) (x : ℕ) (next : x ≡ length (conns H) + 1) where
  abbrev N : List Happening
  N = Happens (move.Open g n at) (Some (turn_of a at (input.Opened x))) ∷ H

  abbrev c : CarriedConn
  c = record { number = length (conns H) + 1; along = r; to = a }

  opened : conns N ≡ conns H ++ c ∷ []
  opened = ap (λ o. followed (conns H) (conn_of (length (conns H) + 1) o (running_in n H))) route ∙ ap (λ o. followed (conns H) (conn_of (length (conns H) + 1) (Some r) o)) runs

  module _ (nodes : AreNodes N new) (y : Carrier) (to : y.to ≡ a.number) (along : y.along ≡ way_of r) (waiting : y.waiting ≡ []) (read_side : y.read_side.conn ≡ conn_after a.settings.id []) (rows : new.conns.items ≡ net.conns.items ++ y ∷ []) (pending_stay : new.pending ≡ net.pending) where
    new_conn : IsConn N c y
    new_conn = record {
      to = to;
      to_known = known_later H (move.Open g n at) (still (move.Open g n at) tt) a at (input.Opened x) known a known;
      along = along;
      along_known = known_later H (move.Open g n at) (still (move.Open g n at) tt) a at (input.Opened x) known r.from r_known;
      waits = waiting ∙ sym (no_pending (length (conns H) + 1) H (omega arith));
      fits = subst (λ K. Fits a.settings (length (conns H) + 1) K y.read_side) (sym (chronicle_now H (move.Open g n at) a at (input.Opened x)))
          (fits_new a.settings (journal a H) (turn_of a at (input.Opened x)).entry (length (conns H) + 1) y.read_side (ap (λ k. input.Opened k) next) (s.conns_are.silent a known (length (conns H) + 1) (omega arith)) read_side);
    }

    each : (k : ℕ) (d : CarriedConn) → nth k (conns N) ≡ Some d → HasConn N k d new.conns.items
    each k d e = by (nth_cases k (conns H) c d (ap (nth k) (sym opened) ∙ e))
      where
        by : (nth k (conns H) ≡ Some d) ⊎ ((k ≡ length (conns H) + 1) × (d ≡ c)) → HasConn N k d new.conns.items
        by (inl z) =
            conn_still H (move.Open g n at) (still (move.Open g n at) tt) a at (input.Opened x) known k d net.conns.items new.conns.items (λ w t. ap (nth k) rows ∙ nth_more k net.conns.items (y ∷ []) w t) refl refl (s.conns_are.each k d z)
        by (inr z) = record {
          number = ap (λ (w : CarriedConn). w.number) z.1 ∙ sym z.0;
          row = y;
          there = ap (nth k) rows ∙ ap (λ j. nth j (net.conns.items ++ y ∷ [])) (z.0 ∙ ap (λ l. l + 1) (sym s.conns_are.count)) ∙ nth_last net.conns.items y;
          is = subst (λ w. IsConn N w y) (sym z.1) new_conn;
        }

    pub open_stands : StandsAfter N new
    open_stands = record {
      nodes = nodes;
      conns_are = record {
        count = let e = ap (λ xs. length xs) rows in let l = length-last net.conns.items y in let f = ap (λ xs. length xs) opened in let m = length-last (conns H) c in let q = s.conns_are.count in omega (arith, e, l, f, m, q);
        each = each;
        silent = λ b k z q. silent_more H (move.Open g n at) (still (move.Open g n at) tt) a at (input.Opened x) known z refl
            (λ d l. s.conns_are.silent d l z (let f = ap (λ xs. length xs) opened in let m = length-last (conns H) c in omega (arith, f, m, q))) b k;
      };
      pending_is =
          let p = sum_by_push (λ (w : Carrier). length w.waiting) net.conns.items y in
          let e = ap (λ xs. sum_by (λ (w : Carrier). length w.waiting) xs) rows in
          let w = ap (λ q. length q) waiting in
          omega (arith, p, e, w, pending_stay, s.pending_is);
    }

-- ---- as a move

pub same_fields : (H : List Happening) (net mid : Network) → IsRest mid.handed (said_in H) mid.said → mid.started ≡ net.started → mid.running ≡ net.running → mid.owners ≡ net.owners → mid.beacons ≡ net.beacons → mid.links ≡ net.links → mid.queued ≡ net.queued → AreNodes H net → AreNodes H mid
same_fields H net mid said started running owners beacons links queued n = record {
  said = said;
  started = subst (λ xs. AreStarted H xs.items) (sym started) n.started;
  runs = λ k. subst (λ r. Finds H k (running_in k H) (running_at k r.items)) (sym running) (n.runs k);
  live = λ k j e. ap (λ xs. has_node (nth j xs.items)) started ∙ n.live k j (ap (λ r. running_at k r.items) (sym running) ∙ e);
  gone = subst (λ v. OnlyRunning v.items mid.running.items) (sym started) (subst (λ r. OnlyRunning net.started.items r.items) (sym running) n.gone);
  owners = λ k id. ap (list_all (fits_owner k id)) owners ∙ n.owners k id;
  beacons = beacons ∙ n.beacons;
  links = links ∙ n.links;
  known = n.known;
  queued = queued ∙ n.queued ∙ ap (λ xs. sum_by (λ (x : Started). octets_in x.sender.lines) xs.items) (sym started);
}

pub opens_played : (H : List Happening) (net new : Network) (mid : List Carrier) (s : StandsAfter H net) (g n at k num : ℕ) (w : Way) (x : Started) (y : Carrier) → Some k ≡ running_at n net.running.items → Some w ≡ nth g net.links → Some x ≡ nth k net.started.items
    → y.to ≡ k → y.along ≡ w → y.waiting ≡ [] → y.read_side.conn ≡ conn_after x.id [] → mid ≡ net.conns.items ++ y ∷ [] → num ≡ length mid
    → ((a : Incarnation) → nth k (incarnations H) ≡ Some a → AreNodes (Happens (move.Open g n at) (Some (turn_of a at (input.Opened num))) ∷ H) new) → new.conns.items ≡ mid → new.pending ≡ net.pending → IsPlayed (move.Open g n at) H true new
opens_played H net new mid s g n at k num w x y e l t to along waiting read_side rows count f conns_stay pending_stay =
    played (move.Open g n at) H new (ap (λ o. is_some o && is_some (nth g (routes H))) r.is ∙ ap (λ o. is_some o) q.there)
    (subst (λ u. StandsAfter (Happens (move.Open g n at) u ∷ H) new) (sym brings)
    (open_stands H g n at net new s r.who q.route r.known r.is q.there q.known (length (conns H) + 1) refl
    (subst (λ j. AreNodes (Happens (move.Open g n at) (Some (turn_of r.who at (input.Opened j))) ∷ H) new) next (f r.who r.there))
    y (to ∙ r.number) (along ∙ q.is) waiting (read_side ∙ ap (λ i. conn_after i []) its_id) (conns_stay ∙ rows) pending_stay))
  where
    r : Runs H n k (running_in n H)
    r = runs_there H net n k s e

    q : IsLinkFound H g w
    q = link_found H net s g w (sym l)

    its_id : x.id ≡ r.who.settings.id
    its_id =
        let h = s.nodes.started.each k r.who r.there in
        ap (λ (z : Started). z.id) (some_one (t ∙ h.there)) ∙ h.is.id

    next : num ≡ length (conns H) + 1
    next = count ∙ ap (λ ys. length ys) rows ∙ length-last net.conns.items y ∙ ap (λ c. c + 1) s.conns_are.count

    brings : turn (move.Open g n at) H ≡ Some (turn_of r.who at (input.Opened (length (conns H) + 1)))
    brings = ap (option_map (λ a. turn_of a at (input.Opened (length (conns H) + 1)))) r.is

pub open_refused : (H : List Happening) (net : Network) (g n at : ℕ) → StandsAfter H net → None ≡ running_at n net.running.items → may_come (move.Open g n at) H ≡ false
open_refused H net g n at s e = ap (λ b. b && is_some (nth g (routes H))) (not_running H net n s e)

pub open_missing : (H : List Happening) (net : Network) (g n at : ℕ) → StandsAfter H net → None ≡ nth g net.links → may_come (move.Open g n at) H ≡ false
open_missing H net g n at s e = ap (λ o. is_some (running_in n H) && is_some o) (no_link H net s g (sym e)) ∙ none (is_some (running_in n H))
  where
    none : (b : Bool) → (b && false) ≡ false
    none true = refl
    none false = refl
