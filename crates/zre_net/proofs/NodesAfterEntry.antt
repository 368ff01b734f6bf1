-- The nodes of a network, after an entry of one of them.
use Rattle.std.proofs.Common.{◌≡◌, ℕ, ◌+◌, ◌<◌, max, eqb, List, [], ◌∷◌, ◌++◌, length, map, Option, Some, refl, sym, ap, ◌∙◌, subst, arith, append_assoc}
use Rattle.std.specs.Prelude.{slice_get, slice_set, sum_by, get_or, take}
use Rattle.std.proofs.lemmas.List.{take_more, map-append}
use Rattle.std.specs.List.{filter_map, AllByRecursion, list_all}
use Rattle.zre_outside.specs.declared.act.Act.{Act}
use Rattle.zre_outside.specs.declared.act.Act.TheVariants as act
use Rattle.zre_outside.specs.declared.entry.Entry.{Entry}
use Rattle.zre_outside.specs.declared.entry.Input.{Input}
use Rattle.zre_peer.specs.declared.event.Event.{Event}
use Rattle.zre_values.specs.declared.settings.Settings.{Settings as Config}
use Rattle.zre_journal.specs.Chronicle.{Comes}
use Rattle.zre_journal.specs.Events.{chronicle, events_at}
use Rattle.zre_journal.proofs.NumberedLists.{All-join}
use Rattle.zre_net.specs.declared.moves.Move.{Move}
use Rattle.zre_net.specs.declared.running.network.Network.{Network}
use Rattle.zre_net.specs.declared.running.rows.Started.{Started}
use Rattle.zre_net.specs.declared.running.steps.EntryTurn.{EntryTurn as Took}
use Rattle.zre_net.specs.Comes.{turn_of}
use Rattle.zre_net.specs.History.{Incarnation, NodeTurn, Happening, Happens, IsKnown, incarnations, running, journal, chronicle_of}
use Rattle.zre_net.specs.Lines.{octets_in}
use Rattle.zre_net.specs.Lists.{nth}
use Rattle.zre_net.specs.Numbers.{Route, acts_of, route_in, routes, broadcast_in, broadcasts}
use Rattle.zre_net.specs.Grammar.{agrees}
use Rattle.zre_net.specs.Rows.{entry_at, Turned, StaysAt, sent_in, way_in, running_at, has_node, OnlyRunning, fits_owner}
use Rattle.zre_net.specs.Running.{IsStarted, HasStarted, AreStarted, Finds, AreNodes, IsStill, sent_of, way_of}
use Rattle.zre_net.specs.Said.{said_in, said_at}
use Rattle.zre_net.specs.Sender.{is_slight}
use Rattle.zre_net.specs.Sending.{HasSent}
use Rattle.zre_net.proofs.RunningNodes.{live_set, gone_stepped}
use Rattle.zre_net.proofs.ListsCountedFromOne.{some_one, nth_at, set_length, sum_set, all_map, past_all}
use Rattle.zre_net.proofs.JournalsOfIncarnations.{journal_now, other_journal}
use Rattle.std.proofs.lemmas.List.Elements.{filter_map-append}
use Rattle.zre_net.proofs.RestOfEvents.{rest_same, rest_more}
use Rattle.zre_net.proofs.RowsStandForSame.{rows_set, start_stays, finds_stays}

-- what one act more brings
pub one_more : {B : Type 0} (f : Act → Option B) (xs ys zs : List B) (acts : List Act) (i : ℕ) (a : Act) → i < length acts → a ≡ get_or acts i a → ys ≡ xs ++ filter_map f (take i acts) → zs ≡ ys ++ filter_map f (a ∷ []) → zs ≡ xs ++ filter_map f (take (i + 1) acts)
one_more f xs ys zs acts i a lt is e q =
    q ∙ ap (λ ws. ws ++ filter_map f (a ∷ [])) e ∙ append_assoc xs (filter_map f (take i acts)) (filter_map f (a ∷ []))
    ∙ ap (λ ws. xs ++ ws) (sym (filter_map-append f (take i acts) (a ∷ [])) ∙ ap (filter_map f) (sym (take_more acts i a lt ∙ ap (λ x. take i acts ++ x ∷ []) (sym is))))

-- what one event more tells
pub tell_more : (n : ℕ) (xs ys zs : List (ℕ × Event)) (es : List Event) (e : Event) → ys ≡ xs ++ map (λ x. (n, x)) es → zs ≡ ys ++ (n, e) ∷ [] → zs ≡ xs ++ map (λ x. (n, x)) (es ++ e ∷ [])
tell_more n xs ys zs es e p q = q ∙ ap (λ ws. ws ++ (n, e) ∷ []) p ∙ append_assoc xs (map (λ x. (n, x)) es) ((n, e) ∷ []) ∙ ap (λ ws. xs ++ ws) (sym (map-append (λ (x : Event). (n, x)) es (e ∷ [])))

-- ---- acts

sent_same : (a : Incarnation) (acts : List Act) → map sent_of (filter_map (broadcast_in a) acts) ≡ filter_map (sent_in a.settings.host) acts
sent_same a [] = refl
sent_same a (act.Beacon o ∷ acts) = ap (λ xs. record { from = a.settings.host; octets = o } ∷ xs) (sent_same a acts)
sent_same a (_ ∷ acts) = sent_same a acts

ways_same : (a : Incarnation) (acts : List Act) → map way_of (filter_map (route_in a) acts) ≡ filter_map (way_in a.number) acts
ways_same a [] = refl
ways_same a (act.Connect l to ∷ acts) = ap (λ xs. record { start = a.number; link = l } ∷ xs) (ways_same a acts)
ways_same a (_ ∷ acts) = ways_same a acts

from_it : (P : Incarnation → Type 0) (a : Incarnation) → P a → (acts : List Act) → AllByRecursion (λ (s : Route). P s.from) (filter_map (route_in a) acts)
from_it P a p [] = tt
from_it P a p (act.Connect l to ∷ acts) = (p, from_it P a p acts)
from_it P a p (_ ∷ acts) = from_it P a p acts

-- ---- nodes

pub record HasStepped (k at : ℕ) (i : Input) (net new : Network) : Type 0 where
  pub place : ℕ
  pub under : k ≡ place + 1
  pub was : Started
  pub now : Started
  pub took : Took
  pub before : slice_get net.started.items place ≡ Some was
  pub written : new.started.items ≡ slice_set net.started.items place now
  pub turned : (g : Config) (J : List Entry) → HasSent g J was.sender → is_slight g i (chronicle g J) (Comes (entry_at was at i) ∷ chronicle g J) → Turned g J (entry_at was at i) took now
  pub stays : StaysAt took was now
  pub queued : new.queued + took.before ≡ net.queued + took.after
  pub beacons : new.beacons ≡ net.beacons ++ filter_map (sent_in took.host) took.step.acts
  pub links : new.links ≡ net.links ++ filter_map (way_in k) took.step.acts
  pub said : new.said ≡ net.said ++ map (λ e. (took.node, e)) took.step.events
  pub handed : new.handed ≡ net.handed
  pub running : new.running ≡ net.running
  pub owners : new.owners ≡ net.owners

module _ (H : List Happening) (m : Move) (still : IsStill m) (a : Incarnation) (k at : ℕ) (i : Input) (net new : Network) (nodes : AreNodes H net) (there : nth k (incarnations H) ≡ Some a) where
  abbrev T' : NodeTurn
  T' = turn_of a at i

  abbrev N' : List Happening
  N' = Happens m (Some T') ∷ H

  stay : incarnations N' ≡ incarnations H
  stay = still.incarnations_stay (Some T') H

  pub known_too : (b : Incarnation) → IsKnown H b → IsKnown N' b
  known_too b e = ap (nth b.number) stay ∙ e

  pub known_back : (b : Incarnation) → IsKnown N' b → IsKnown H b
  known_back b e = ap (nth b.number) (sym stay) ∙ e

  its : HasStarted H k a net.started.items
  its = nodes.started.each k a there

  pub is_number : a.number ≡ k
  is_number = its.number

  pub a_known : IsKnown H a
  a_known = ap (λ n. nth n (incarnations H)) is_number ∙ there

  module _ (slight : is_slight a.settings i (chronicle_of a H) (Comes T'.entry ∷ chronicle_of a H)) (s : HasStepped k at i net new) where
    same_row : its.row ≡ s.was
    same_row = some_one (sym its.there ∙ nth_at k s.place net.started.items s.under ∙ s.before)

    old : IsStarted H a s.was
    old = subst (λ x. IsStarted H a x) same_row its.is

    same_entry : entry_at s.was at i ≡ T'.entry
    same_entry = ap (λ n. record { at = max at n; input = i }) old.since

    turned : Turned a.settings (journal a H) T'.entry s.took s.now
    turned = subst (λ e. Turned a.settings (journal a H) e s.took s.now) same_entry
        (s.turned a.settings (journal a H) old.sent (subst (λ e. is_slight a.settings i (chronicle_of a H) (Comes e ∷ chronicle_of a H)) (sym same_entry) slight))

    new_row : IsStarted N' a s.now
    new_row = record {
      node = s.stays.node ∙ old.node;
      since = s.stays.since ∙ old.since;
      id = s.stays.id ∙ old.id;
      host = s.stays.host ∙ old.host;
      sent = subst (λ Z. HasSent a.settings Z s.now.sender) (sym (journal_now H m a at i a refl)) turned.sent;
    }

    each : (j : ℕ) (b : Incarnation) → nth j (incarnations N') ≡ Some b → HasStarted N' j b new.started.items
    each j b e = rows_set (λ (a : Incarnation). a.number) (IsStarted H) (IsStarted N') (incarnations H) k s.place net.started.items new.started.items s.was s.now s.under s.before s.written
        (λ d f n o. subst (λ c. IsStarted N' c s.now) (some_one (sym there ∙ f)) new_row)
        (λ w d z t h. start_stays H N' known_too w d net.started.items new.started.items t
        (λ x q. subst (λ Z. HasSent d.settings Z x.sender) (sym (other_journal H m a at i d (ap (λ n. eqb n a.number) h.number ∙ ap (eqb w) is_number ∙ z))) q) h)
        nodes.started.each j b (ap (nth j) (sym stay) ∙ e)

    started : AreStarted N' new.started.items
    started = record {
      count = ap (λ xs. length xs) s.written ∙ set_length net.started.items s.place s.now ∙ nodes.started.count ∙ ap (λ xs. length xs) (sym stay);
      each = each;
      none_yet = λ b z. later b z;
    }
      where
        later : (b : Incarnation) → length (incarnations N') < b.number → journal b N' ≡ []
        later b z =
            let c = ap (λ xs. length xs) stay in
            let past : length (incarnations H) < b.number = omega (arith, c, z) in
            other_journal H m a at i b (past_all a.number (incarnations H) a a_known b.number past) ∙ nodes.started.none_yet b past

    done_is : s.took.step.acts ≡ acts_of T' H
    done_is = turned.stepped.done

    told_is : map (λ e. (s.took.node, e)) s.took.step.events ≡ said_at T' H
    told_is = ap (λ es. map (λ e. (s.took.node, e)) es) turned.stepped.told ∙ ap (λ n. map (λ (e : Event). (n, e)) (events_at a.settings T'.entry (chronicle_of a H))) (s.stays.told_node ∙ old.node)

    pub nodes_more : AreNodes N' new
    nodes_more = record {
      said = rest_same net.handed new.handed (said_in H ++ said_at T' H) (net.said ++ said_at T' H) new.said s.handed (s.said ∙ ap (λ xs. net.said ++ xs) told_is) (rest_more net.handed (said_in H) (said_at T' H) net.said nodes.said);
      started = started;
      runs = λ n. finds_stays H N' known_too n (running n N') (running_at n new.running.items) (subst (λ o. Finds H n o (running_at n new.running.items)) (sym (still.running_stay (Some T') H n)) (subst (λ r. Finds H n (running n H) (running_at n r.items)) (sym s.running) (nodes.runs n)));
      live = λ n j e. ap (λ xs. has_node (nth j xs)) s.written ∙ live_set net.started.items s.place j s.now s.stays.live (nodes.live n j (ap (λ r. running_at n r.items) (sym s.running) ∙ e));
      gone = subst (λ xs. OnlyRunning xs new.running.items) (sym s.written)
          (subst (λ r. OnlyRunning (slice_set net.started.items s.place s.now) r.items) (sym s.running) (gone_stepped net.started.items net.running.items nodes.gone s.place s.was s.now s.before s.stays.was_live s.stays.node));
      owners = λ n id. ap (list_all (fits_owner n id)) s.owners ∙ nodes.owners n id ∙ ap (list_all (agrees n id)) (sym stay);
      beacons = s.beacons ∙ ap (λ xs. xs ++ filter_map (sent_in s.took.host) s.took.step.acts) nodes.beacons
          ∙ ap (λ h. map sent_of (broadcasts H) ++ filter_map (sent_in h) s.took.step.acts) (s.stays.told_host ∙ old.host)
          ∙ ap (λ xs. map sent_of (broadcasts H) ++ filter_map (sent_in a.settings.host) xs) done_is
          ∙ ap (λ xs. map sent_of (broadcasts H) ++ xs) (sym (sent_same a (acts_of T' H))) ∙ sym (map-append sent_of (broadcasts H) (filter_map (broadcast_in a) (acts_of T' H)));
      links = s.links ∙ ap (λ xs. xs ++ filter_map (way_in k) s.took.step.acts) nodes.links
          ∙ ap (λ n. map way_of (routes H) ++ filter_map (way_in n) s.took.step.acts) (sym is_number)
          ∙ ap (λ xs. map way_of (routes H) ++ filter_map (way_in a.number) xs) done_is
          ∙ ap (λ xs. map way_of (routes H) ++ xs) (sym (ways_same a (acts_of T' H))) ∙ sym (map-append way_of (routes H) (filter_map (route_in a) (acts_of T' H)));
      known = All-join (λ (r : Route). IsKnown N' r.from) (routes H) (filter_map (route_in a) (acts_of T' H))
          (all_map (λ (r : Route). IsKnown H r.from) (λ (r : Route). IsKnown N' r.from) (λ r z. known_too r.from z) (routes H) nodes.known)
          (from_it (λ b. IsKnown N' b) a (known_too a a_known) (acts_of T' H));
      queued =
          let f = sum_set (λ (x : Started). octets_in x.sender.lines) net.started.items s.place s.was s.now s.before in
          let w = ap (λ xs. sum_by (λ (x : Started). octets_in x.sender.lines) xs) s.written in
          omega (arith, f, w, s.queued, nodes.queued, s.stays.before, s.stays.after);
    }
