-- Connections are closed and ignored, peers are born and turn evasive as the tables say.
use Rattle.std.proofs.Common.{◌≡◌, ℕ, ◌+◌, Bool, true, false, true≢false, cond, not, ◌&&◌, eqb, ltb, List, [], ◌∷◌, ◌++◌, length, map, Option, Some, None, is_none, filter, refl, sym, ap, ◌∙◌, append-nil}
use Rattle.std.proofs.Math.Bool.{and-false, and-true}
use Rattle.std.proofs.lemmas.List.Elements.{filter_map-append}
use Rattle.std.specs.List.{filter_map, cons_option}
use Rattle.std.specs.Option.{option_map_or}
use Rattle.std.specs.Str.{bytes_eq}
use Rattle.zre_values.specs.declared.limits.TheConstants.{PEERS, CONNECTIONS}
use Rattle.zre_values.specs.declared.peer_id.PeerId.{PeerId}
use Rattle.zre_values.specs.declared.endpoint.Endpoint.{Endpoint}
use Rattle.zre_values.specs.Endpoint.{endpoint_in}
use Rattle.zre_beacon.specs.Beacon.{beacon_in}
use Rattle.zre_mailbox.specs.declared.arrival.Arrival.TheVariants as arrival
use Rattle.zre_mailbox.specs.Talk.{Said, Arrived, Fault}
use Rattle.zre_msg.specs.declared.message.Body.{Body}
use Rattle.zre_msg.specs.declared.message.Body.TheVariants as body
use Rattle.zre_msg.specs.declared.message.Message.{Message}
use Rattle.zre_outside.specs.declared.entry.Entry.{Entry}
use Rattle.zre_outside.specs.declared.entry.Input.{Input}
use Rattle.zre_outside.specs.declared.entry.Input.TheVariants as input
use Rattle.zre_peer.specs.Runs.{is_hello, due}
use Rattle.zre_peer.specs.Views.{view_of, is_small}
use Rattle.zre_peer.specs.declared.causes.Cause.TheVariants as cause
use Rattle.zre_peer.specs.declared.causes.CloseWhy.{CloseWhy}
use Rattle.zre_peer.specs.declared.causes.CloseWhy.TheVariants as close
use Rattle.zre_peer.specs.declared.causes.IgnoreWhy.{IgnoreWhy}
use Rattle.zre_peer.specs.declared.causes.IgnoreWhy.TheVariants as ignore
use Rattle.zre_values.specs.declared.settings.Settings.{Settings as Config}
use Rattle.zre_journal.specs.Arrivals.{at_opened, end_of_run, taken_over, start_unknown, start, at_first, answer_to, at_later, at_message, at_ready, at_said, at_place}
use Rattle.zre_journal.specs.Causes.{where_so}
use Rattle.zre_journal.specs.Chronicle.{Mark, Comes, Opens, TurnsAway, Starts, Ignores, Closes, Born, HearsBeacon, Ends, IsEvasive, Puts, Identifies}
use Rattle.zre_journal.specs.Connections.{open_ones, is_new, identity, runs, is_live, other_with}
use Rattle.zre_journal.specs.Events.{chronicle}
use Rattle.zre_journal.specs.Happens.{is_welcome, at_beacon, at_datagram, at_input}
use Rattle.zre_journal.specs.Peers.{Life, lives, life, life_of, counted, births}
use Rattle.zre_journal.specs.Places.{is_piece}
use Rattle.zre_journal.specs.Proper.{IsProper}
use Rattle.zre_journal.specs.Pushes.{birth, hello}
use Rattle.zre_journal.specs.Tables.{closed_of, closed_in, closed_at, closed_said, ignored_of, ignored_in, ignored_new, ignored_first, ignored_said, born_of, born_in, born_by, born_at, born_new, born_first, born_said, evasive_of, evasive_in, evasive_at, TellsByTables}
use Rattle.zre_journal.specs.Ticks.{is_evasive, is_stale, probe, at_tick}
use Rattle.zre_journal.proofs.WithinCounts.{found_kept}
use Rattle.zre_journal.proofs.NumberedLists.{Apart-kept}
use Rattle.zre_journal.proofs.BroughtInTurn.{dropped}
use Rattle.zre_journal.proofs.WhenMarksCome.{choice}
use Rattle.zre_journal.proofs.MarksInNoTable.{AreBare, Reads, reads_closed, reads_ignored, reads_born, reads_evasive, bare_none, bare_then, either, bare_push, bare_run, bare_reply, bare_linked, bare_unlinked, bare_took, bare_stop, bare_command, bare_shut, probes_none, closes_none, tick_read, chosen, evasive_never, evasive_once}
use Rattle.zre_journal.proofs.ProperChronicles.{comes_proper}

-- ---- entries

module _ (g : Config) (H K : List Mark) (q : IsProper K) where
  abbrev closes : List Mark → List Mark
  closes I = map (λ c. Closes c close.Timeout) (filter (is_stale g I) (open_ones I))

  -- those that bring marks of the tables
  abbrev IsPlain : Input → Type 0
  IsPlain (input.Datagram from o) = ⊥
  IsPlain (input.Opened c) = ⊥
  IsPlain (input.Piece c o) = ⊥
  IsPlain input.Tick = ⊥
  IsPlain _ = Unit {0}

  bare_input : (i : Input) → IsPlain i → AreBare (at_input g i H K)
  bare_input (input.Shut c) n = bare_shut g K c
  bare_input (input.Linked l) n = bare_linked g K l (life l K)
  bare_input (input.Reply l o) n = bare_reply g K l (life l K) H
  bare_input (input.Unlinked l) n = bare_unlinked g K l (life l K)
  bare_input (input.Took l m) n = bare_took g K l m (life l K)
  bare_input (input.Do c) n = bare_command g K c
  bare_input input.End n = bare_stop g K
  bare_input _ n = absurd n

  -- a datagram closes nothing
  module _ {A : Type 0} (f : Mark → Option A) (reads : Reads f) where
    datagram_none : ((l : ℕ) (p : PeerId) (to : Endpoint) → f (Born l p to) ≡ None) → (from : List ℕ) (b : Option (PeerId × ℕ)) → filter_map f (at_datagram g from b K) ≡ []
    datagram_none n from None = refl
    datagram_none n from (Some b) = by (life_of b.0 K)
      where
        by : (o : Option Life) → filter_map f (at_beacon g from b.0 b.1 o K) ≡ []
        by (Some v) = choice (λ hs. filter_map f hs ≡ []) (eqb b.1 0) _ _ (λ z. bare_none f reads (Ends v.link cause.Beacon ∷ []) (tt, tt)) (λ z. bare_none f reads (HearsBeacon v.link ∷ []) (tt, tt))
        by None = choice (λ hs. filter_map f hs ≡ []) (is_welcome g b.0 b.1 (length (lives K))) (birth g b.0 (record { addr = from; port = b.1 }) K) [] (λ z. born (birth g b.0 (record { addr = from; port = b.1 }) K) refl) (λ z. refl)
          where
            born : (hs : List Mark) → hs ≡ birth g b.0 (record { addr = from; port = b.1 }) K → filter_map f hs ≡ []
            born hs e = ap (filter_map f) e ∙ rw (n (births K + 1) b.0 (record { addr = from; port = b.1 })) (bare_none f reads (Puts (births K + 1) (hello g K) ∷ []) (tt, tt))

    opened_none : ((c : ℕ) → f (TurnsAway c) ≡ None) → (c : ℕ) → filter_map f (at_opened g c K) ≡ []
    opened_none n c = choice (λ hs. filter_map f hs ≡ []) (is_new c K) _ _ (λ z. choice (λ hs. filter_map f hs ≡ []) (ltb (length (open_ones K)) CONNECTIONS) _ _ (λ y. bare_none f reads (Opens c ∷ []) (tt, tt)) (λ y. rw (n c) refl)) (λ z. refl)

    tick_none : ((l : ℕ) → f (IsEvasive l) ≡ None) → ((c : ℕ) → f (Closes c close.Timeout) ≡ None) → filter_map f (at_tick g K) ≡ []
    tick_none n m = tick_read f reads g K ∙ ap (λ xs. xs ++ filter_map f (closes K)) (probes_none f reads g n (filter (is_evasive g K) (lives K)) K) ∙ closes_none f reads g m (filter (is_stale g K) (open_ones K))

  closed_entry : (c : ℕ) (i : Input) → is_piece i ≡ false → closed_in c (at_input g i H K) ≡ cons_option (closed_at g i K c) []
  closed_entry c (input.Datagram from o) n = datagram_none (closed_of c) (reads_closed c) (λ l p to. refl) from (beacon_in o)
  closed_entry c (input.Opened d) n = by (is_new d K) (ltb (length (open_ones K)) CONNECTIONS)
    where
      by : (x y : Bool) → closed_in c (cond x (cond y (Opens d ∷ []) (TurnsAway d ∷ [])) []) ≡ cons_option (where_so (eqb c d && (x && not y)) close.TooMany) []
      by false y = ap (λ b. cons_option (where_so b close.TooMany) []) (sym (and-false (eqb c d)))
      by true true = ap (λ b. cons_option (where_so b close.TooMany) []) (sym (and-false (eqb c d)))
      by true false = ap (λ b. cons_option (where_so b close.TooMany) []) (sym (and-true (eqb c d)))
  closed_entry c (input.Piece d o) n = absurd (true≢false n)
  closed_entry c input.Tick n = tick_read (closed_of c) (reads_closed c) g K ∙ ap (λ xs. xs ++ closed_in c (closes K)) (probes_none (closed_of c) (reads_closed c) g (λ l. refl) (filter (is_evasive g K) (lives K)) K)
      ∙ chosen (is_stale g K) c (open_ones K) q.opening.open_apart
  closed_entry c i n = bare_none (closed_of c) (reads_closed c) (at_input g i H K) (bare_input i tt)

  ignored_entry : (c : ℕ) (i : Input) → is_piece i ≡ false → ignored_in c (at_input g i H K) ≡ []
  ignored_entry c (input.Datagram from o) n = datagram_none (ignored_of c) (reads_ignored c) (λ l p to. refl) from (beacon_in o)
  ignored_entry c (input.Opened d) n = opened_none (ignored_of c) (reads_ignored c) (λ e. refl) d
  ignored_entry c (input.Piece d o) n = absurd (true≢false n)
  ignored_entry c input.Tick n = tick_none (ignored_of c) (reads_ignored c) (λ l. refl) (λ d. refl)
  ignored_entry c i n = bare_none (ignored_of c) (reads_ignored c) (at_input g i H K) (bare_input i tt)

  born_datagram : (p : PeerId) (from : List ℕ) (b : Option (PeerId × ℕ)) → born_in p (at_datagram g from b K) ≡ cons_option (born_by g from b K p) []
  born_datagram p from None = refl
  born_datagram p from (Some b) = by (life_of b.0 K)
    where
      to : Endpoint
      to = record { addr = from; port = b.1 }

      seen : (v : Life) (x : Bool) → born_in p (cond x (Ends v.link cause.Beacon ∷ []) (HearsBeacon v.link ∷ [])) ≡ []
      seen v true = refl
      seen v false = refl

      fresh : (x : Bool) → born_in p (cond x (birth g b.0 to K) []) ≡ cons_option (where_so (bytes_eq p.0 b.0.0 && x) to) []
      fresh true = ap (λ t. cons_option (where_so t to) []) (sym (and-true (bytes_eq p.0 b.0.0)))
      fresh false = ap (λ t. cons_option (where_so t to) []) (sym (and-false (bytes_eq p.0 b.0.0)))

      by : (o : Option Life) → born_in p (at_beacon g from b.0 b.1 o K) ≡ cons_option (where_so (bytes_eq p.0 b.0.0 && (is_none o && is_welcome g b.0 b.1 (length (lives K)))) to) []
      by (Some v) = seen v (eqb b.1 0) ∙ ap (λ t. cons_option (where_so t to) []) (sym (and-false (bytes_eq p.0 b.0.0)))
      by None = fresh (is_welcome g b.0 b.1 (length (lives K)))

  born_entry : (p : PeerId) (i : Input) → is_piece i ≡ false → born_in p (at_input g i H K) ≡ cons_option (born_at g i K p) []
  born_entry p (input.Datagram from o) n = born_datagram p from (beacon_in o)
  born_entry p (input.Opened d) n = opened_none (born_of p) (reads_born p) (λ e. refl) d
  born_entry p (input.Piece d o) n = absurd (true≢false n)
  born_entry p input.Tick n = tick_none (born_of p) (reads_born p) (λ l. refl) (λ d. refl)
  born_entry p i n = bare_none (born_of p) (reads_born p) (at_input g i H K) (bare_input i tt)

  evasive_entry : (v : Life) → life v.link K ≡ Some v → (i : Input) → is_piece i ≡ false → evasive_in v.link (at_input g i H K) ≡ cons_option (evasive_at g i K v) []
  evasive_entry v known (input.Datagram from o) n = datagram_none (evasive_of v.link) (reads_evasive v.link) (λ l p to. refl) from (beacon_in o)
  evasive_entry v known (input.Opened d) n = opened_none (evasive_of v.link) (reads_evasive v.link) (λ e. refl) d
  evasive_entry v known (input.Piece d o) n = absurd (true≢false n)
  evasive_entry v known input.Tick n =
      tick_read (evasive_of v.link) (reads_evasive v.link) g K ∙ ap (λ xs. evasive_in v.link (probe g (filter (is_evasive g K) (lives K)) K) ++ xs) (closes_none (evasive_of v.link) (reads_evasive v.link) g (λ c. refl) (filter (is_stale g K) (open_ones K)))
      ∙ append-nil (evasive_in v.link (probe g (filter (is_evasive g K) (lives K)) K)) ∙ by (is_evasive g K v) refl
    where
      by : (b : Bool) → is_evasive g K v ≡ b → evasive_in v.link (probe g (filter (is_evasive g K) (lives K)) K) ≡ cons_option (where_so b v.link) []
      by true e = evasive_once g v (filter (is_evasive g K) (lives K)) K (found_kept (λ (u : Life). eqb v.link u.link) (is_evasive g K) (lives K) v known e) (Apart-kept (λ (u : Life). u.link) (is_evasive g K) (lives K) q.living.apart)
      by false e = evasive_never g v (filter (is_evasive g K) (lives K)) K (dropped (is_evasive g K) (lives K) v known e q.living.apart)
  evasive_entry v known i n = bare_none (evasive_of v.link) (reads_evasive v.link) (at_input g i H K) (bare_input i tt)

-- ---- places

nobody : {A : Type 0} (b : Bool) → let o : Option A = None in [] ≡ cons_option (cond b o o) []
nobody true = refl
nobody false = refl

anded : {A : Type 0} (s t : Bool) (o : Option A) → cond (s && t) o None ≡ cond s (cond t o None) None
anded true t o = refl
anded false t o = refl

module _ (g : Config) (K : List Mark) where
  bare_answer : (l : ℕ) (b : Body) → AreBare (answer_to g l b K)
  bare_answer l body.Ping = bare_push g l body.PingOk K
  bare_answer l _ = tt

  bare_later : (d l : ℕ) (m : Message) → AreBare (at_later g d l m K)
  bare_later d l m = either (is_hello m.body) _ _ (tt, tt) (either (not (eqb m.sequence (due (counted l K)))) _ _ (tt, tt)
      (either (not (is_small (view_of (counted l K ++ m ∷ [])))) _ _ (tt, tt) (tt, bare_answer l m.body)))

  -- ---- CLOSED

  module _ {A : Type 0} (f : Mark → Option A) (reads : Reads f) where
    first_none : ((c : ℕ) (why : IgnoreWhy) → f (Ignores c why) ≡ None) → ((l : ℕ) (p : PeerId) (to : Endpoint) → f (Born l p to) ≡ None) → (d : ℕ) (m : Message) (o : Option PeerId) → filter_map f (at_first g d o m K) ≡ []
    first_none n b d m None = refl
    first_none n b d m (Some p) = choice (λ hs. filter_map f hs ≡ []) (not (is_hello m.body && eqb m.sequence 1)) _ _ (λ z. ig ignore.NotHello) (λ z. choice (λ hs. filter_map f hs ≡ []) (not (is_small (view_of (m ∷ [])))) _ _ (λ y. ig ignore.Limit) (λ y. known_or_not (life_of p K)))
      where
        ig : (why : IgnoreWhy) → filter_map f (Ignores d why ∷ []) ≡ []
        ig why = rw (n d why) refl

        starts : (to : Endpoint) → filter_map f (birth g p to K ++ Starts d (births K + 1) m ∷ []) ≡ []
        starts to = ap (λ o. cons_option o (filter_map f (Puts (births K + 1) (hello g K) ∷ Starts d (births K + 1) m ∷ []))) (b (births K + 1) p to) ∙ bare_none f reads (Puts (births K + 1) (hello g K) ∷ Starts d (births K + 1) m ∷ []) (tt, (tt, tt))

        unknown : (o : Option Endpoint) → filter_map f (start_unknown g d p m o K) ≡ []
        unknown None = ig ignore.NoEndpoint
        unknown (Some to) = choice (λ hs. filter_map f hs ≡ []) (ltb (length (lives K)) PEERS) _ _ (λ z. starts to) (λ z. ig ignore.Full)

        known_or_not : (o : Option Life) → filter_map f (start g d p m o K) ≡ []
        known_or_not (Some u) = bare_none f reads (Starts d u.link m ∷ []) (tt, tt)
        known_or_not None = unknown (endpoint_in (view_of (m ∷ [])).endpoint)

    ready_none : ((c : ℕ) (why : CloseWhy) → f (Closes c why) ≡ None) → (d : ℕ) (p : PeerId) (o : Option PeerId) → filter_map f (at_ready g d p o K) ≡ []
    ready_none n d p (Some i) = refl
    ready_none n d p None = filter_map-append f (taken_over g (other_with p d K) K) (Identifies d p ∷ []) ∙ ap (λ xs. filter_map f (taken_over g (other_with p d K) K) ++ xs) (bare_none f reads (Identifies d p ∷ []) (tt, tt))
        ∙ append-nil (filter_map f (taken_over g (other_with p d K) K)) ∙ by (other_with p d K)
      where
        by : (o : Option ℕ) → filter_map f (taken_over g o K) ≡ []
        by None = refl
        by (Some e) = bare_then f reads (end_of_run g (runs e K) cause.Taken) (Closes e close.Taken ∷ []) (bare_run g (runs e K) cause.Taken) ∙ rw (n e close.Taken) refl

    fault_none : ((c : ℕ) (why : CloseWhy) → f (Closes c why) ≡ None) → (d : ℕ) (why : CloseWhy) → filter_map f (end_of_run g (runs d K) cause.Fault ++ Closes d why ∷ []) ≡ []
    fault_none n d why = bare_then f reads (end_of_run g (runs d K) cause.Fault) (Closes d why ∷ []) (bare_run g (runs d K) cause.Fault) ∙ rw (n d why) refl

    message_none : ((c : ℕ) (why : IgnoreWhy) → f (Ignores c why) ≡ None) → ((l : ℕ) (p : PeerId) (to : Endpoint) → f (Born l p to) ≡ None) → (d : ℕ) (m : Message) (o : Option ℕ) → filter_map f (at_message g d o m K) ≡ []
    message_none n b d m None = first_none n b d m (identity d K)
    message_none n b d m (Some l) = bare_none f reads (at_later g d l m K) (bare_later d l m)

  taken_closed : (c d : ℕ) (p : PeerId) (o : Option PeerId) → identity d K ≡ o → closed_in c (at_ready g d p o K) ≡ cons_option (where_so (is_none o && option_map_or (eqb c) (other_with p d K) false) close.Taken) []
  taken_closed c d p (Some i) e = refl
  taken_closed c d p None e = filter_map-append (closed_of c) (taken_over g (other_with p d K) K) (Identifies d p ∷ []) ∙ append-nil (closed_in c (taken_over g (other_with p d K) K)) ∙ by (other_with p d K)
    where
      by : (o : Option ℕ) → closed_in c (taken_over g o K) ≡ cons_option (where_so (option_map_or (eqb c) o false) close.Taken) []
      by None = refl
      by (Some e) = bare_then (closed_of c) (reads_closed c) (end_of_run g (runs e K) cause.Taken) (Closes e close.Taken ∷ []) (bare_run g (runs e K) cause.Taken)

  closed_one : (c d : ℕ) (one : Said) → closed_in c (at_said g d one K) ≡ cons_option (closed_said d one K c) []
  closed_one c d (Arrived arrival.Greeted) = refl
  closed_one c d (Arrived (arrival.Shaken p)) = taken_closed c d p (identity d K) refl
  closed_one c d (Arrived (arrival.Ping t)) = refl
  closed_one c d (Arrived (arrival.Message m)) = message_none (closed_of c) (reads_closed c) (λ e why. refl) (λ l p to. refl) d m (runs d K)
  closed_one c d (Fault f) = bare_then (closed_of c) (reads_closed c) (end_of_run g (runs d K) cause.Fault) (Closes d (close.Zmtp f) ∷ []) (bare_run g (runs d K) cause.Fault)

  -- ---- IGNORED

  ignored_new_one : (c d : ℕ) (m : Message) (o : Option PeerId) → ignored_in c (at_first g d o m K) ≡ cons_option (cond (eqb c d) (ignored_first o m K) None) []
  ignored_new_one c d m None = nobody (eqb c d)
  ignored_new_one c d m (Some p) = by (is_hello m.body && eqb m.sequence 1) (is_small (view_of (m ∷ [])))
    where
      unknown : (o : Option Endpoint) → ignored_in c (start_unknown g d p m o K) ≡ cons_option (cond (eqb c d) (ignored_new o K) None) []
      unknown None = refl
      unknown (Some to) = at (ltb (length (lives K)) PEERS)
        where
          at : (z : Bool) → ignored_in c (cond z (birth g p to K ++ Starts d (births K + 1) m ∷ []) (Ignores d ignore.Full ∷ [])) ≡ cons_option (cond (eqb c d) (where_so (not z) ignore.Full) None) []
          at true = nobody (eqb c d)
          at false = refl

      starts : (o : Option Life) → ignored_in c (start g d p m o K) ≡ cons_option (cond (eqb c d) (cond (is_none o) (ignored_new (endpoint_in (view_of (m ∷ [])).endpoint) K) None) None) []
      starts (Some u) = nobody (eqb c d)
      starts None = unknown (endpoint_in (view_of (m ∷ [])).endpoint)

      by : (x y : Bool) → ignored_in c (cond (not x) (Ignores d ignore.NotHello ∷ []) (cond (not y) (Ignores d ignore.Limit ∷ []) (start g d p m (life_of p K) K)))
          ≡ cons_option (cond (eqb c d) (cond (not x) (Some ignore.NotHello) (cond (not y) (Some ignore.Limit) (cond (is_none (life_of p K)) (ignored_new (endpoint_in (view_of (m ∷ [])).endpoint) K) None))) None) []
      by false y = refl
      by true false = refl
      by true true = starts (life_of p K)

  ignored_message : (c d : ℕ) (m : Message) (o : Option ℕ) → runs d K ≡ o → ignored_in c (at_message g d o m K) ≡ cons_option (cond (eqb c d && is_none o) (ignored_first (identity d K) m K) None) []
  ignored_message c d m None e = ignored_new_one c d m (identity d K) ∙ ap (λ b. cons_option (cond b (ignored_first (identity d K) m K) None) []) (sym (and-true (eqb c d)))
  ignored_message c d m (Some l) e = bare_none (ignored_of c) (reads_ignored c) (at_later g d l m K) (bare_later d l m) ∙ ap (λ b. cons_option (cond b (ignored_first (identity d K) m K) None) []) (sym (and-false (eqb c d)))

  ignored_one : (c d : ℕ) (one : Said) → ignored_in c (at_said g d one K) ≡ cons_option (ignored_said d one K c) []
  ignored_one c d (Arrived arrival.Greeted) = refl
  ignored_one c d (Arrived (arrival.Shaken p)) = ready_none (ignored_of c) (reads_ignored c) (λ e why. refl) d p (identity d K)
  ignored_one c d (Arrived (arrival.Ping t)) = refl
  ignored_one c d (Arrived (arrival.Message m)) = ignored_message c d m (runs d K) refl
  ignored_one c d (Fault f) = fault_none (ignored_of c) (reads_ignored c) (λ e why. refl) d (close.Zmtp f)

  -- ---- births

  born_new_one : (p : PeerId) (d : ℕ) (m : Message) (o : Option PeerId) → born_in p (at_first g d o m K) ≡ cons_option (born_first o m K p) []
  born_new_one p d m None = refl
  born_new_one p d m (Some i) = by (is_hello m.body && eqb m.sequence 1) (is_small (view_of (m ∷ []))) ∙ ap (λ u. cons_option u []) (sym (anded t (x && (y && z)) w ∙ ap (λ u. cond t u None) (anded x (y && z) w ∙ ap (λ u. cond x u None) (anded y z w))))
    where
      t : Bool
      t = bytes_eq p.0 i.0

      x : Bool
      x = is_hello m.body && eqb m.sequence 1

      y : Bool
      y = is_small (view_of (m ∷ []))

      z : Bool
      z = is_none (life_of i K)

      w : Option Endpoint
      w = born_new (endpoint_in (view_of (m ∷ [])).endpoint) K

      unknown : (o : Option Endpoint) → born_in p (start_unknown g d i m o K) ≡ cons_option (cond (bytes_eq p.0 i.0) (born_new o K) None) []
      unknown None = nobody (bytes_eq p.0 i.0)
      unknown (Some to) = at (ltb (length (lives K)) PEERS)
        where
          at : (b : Bool) → born_in p (cond b (birth g i to K ++ Starts d (births K + 1) m ∷ []) (Ignores d ignore.Full ∷ [])) ≡ cons_option (cond (bytes_eq p.0 i.0) (where_so b to) None) []
          at true = refl
          at false = nobody (bytes_eq p.0 i.0)

      starts : (o : Option Life) → born_in p (start g d i m o K) ≡ cons_option (cond (bytes_eq p.0 i.0) (cond (is_none o) (born_new (endpoint_in (view_of (m ∷ [])).endpoint) K) None) None) []
      starts (Some u) = nobody (bytes_eq p.0 i.0)
      starts None = unknown (endpoint_in (view_of (m ∷ [])).endpoint)

      by : (a b : Bool) → born_in p (cond (not a) (Ignores d ignore.NotHello ∷ []) (cond (not b) (Ignores d ignore.Limit ∷ []) (start g d i m (life_of i K) K)))
          ≡ cons_option (cond (bytes_eq p.0 i.0) (cond a (cond b (cond (is_none (life_of i K)) (born_new (endpoint_in (view_of (m ∷ [])).endpoint) K) None) None) None) None) []
      by false b = nobody (bytes_eq p.0 i.0)
      by true false = nobody (bytes_eq p.0 i.0)
      by true true = starts (life_of i K)

  born_message : (p : PeerId) (d : ℕ) (m : Message) (o : Option ℕ) → born_in p (at_message g d o m K) ≡ cons_option (cond (is_none o) (born_first (identity d K) m K p) None) []
  born_message p d m None = born_new_one p d m (identity d K)
  born_message p d m (Some l) = bare_none (born_of p) (reads_born p) (at_later g d l m K) (bare_later d l m)

  born_one : (p : PeerId) (d : ℕ) (one : Said) → born_in p (at_said g d one K) ≡ cons_option (born_said d one K p) []
  born_one p d (Arrived arrival.Greeted) = refl
  born_one p d (Arrived (arrival.Shaken i)) = ready_none (born_of p) (reads_born p) (λ e why. refl) d i (identity d K)
  born_one p d (Arrived (arrival.Ping t)) = refl
  born_one p d (Arrived (arrival.Message m)) = born_message p d m (runs d K)
  born_one p d (Fault f) = fault_none (born_of p) (reads_born p) (λ e why. refl) d (close.Zmtp f)

  -- ---- EVASIVE

  evasive_one : (l d : ℕ) (one : Said) → evasive_in l (at_said g d one K) ≡ []
  evasive_one l d (Arrived arrival.Greeted) = refl
  evasive_one l d (Arrived (arrival.Shaken p)) = ready_none (evasive_of l) (reads_evasive l) (λ e why. refl) d p (identity d K)
  evasive_one l d (Arrived (arrival.Ping t)) = refl
  evasive_one l d (Arrived (arrival.Message m)) = message_none (evasive_of l) (reads_evasive l) (λ e why. refl) (λ k p to. refl) d m (runs d K)
  evasive_one l d (Fault f) = fault_none (evasive_of l) (reads_evasive l) (λ e why. refl) d (close.Zmtp f)

  -- ---- one place

  at_live : {A : Type 0} (f : Mark → Option A) (d : ℕ) (one : Said) (o : Option A) → filter_map f (at_said g d one K) ≡ cons_option o [] → filter_map f (at_place g d one K) ≡ cons_option (cond (is_live d K) o None) []
  at_live f d one o e = by (is_live d K)
    where
      by : (b : Bool) → filter_map f (cond b (at_said g d one K) []) ≡ cons_option (cond b o None) []
      by true = e
      by false = refl

  no_live : (l d : ℕ) (one : Said) → evasive_in l (at_place g d one K) ≡ []
  no_live l d one = choice (λ hs. evasive_in l hs ≡ []) (is_live d K) _ _ (λ z. evasive_one l d one) (λ z. refl)

pub tells_by_tables : (g : Config) (J : List Entry) → TellsByTables g J
tells_by_tables g J = record {
  closed_entries = λ c earlier e later at n. closed_entry g (chronicle g earlier) (Comes e ∷ chronicle g earlier) (comes_proper g earlier e) c e.input n;
  closed_places = λ c d one K a. at_live g K (closed_of c) d one (closed_said d one K c) (closed_one g K c d one);
  ignored_entries = λ c earlier e later at n. ignored_entry g (chronicle g earlier) (Comes e ∷ chronicle g earlier) (comes_proper g earlier e) c e.input n;
  ignored_places = λ c d one K a. at_live g K (ignored_of c) d one (ignored_said d one K c) (ignored_one g K c d one);
  born_entries = λ p earlier e later at n. born_entry g (chronicle g earlier) (Comes e ∷ chronicle g earlier) (comes_proper g earlier e) p e.input n;
  born_places = λ p d one K a. at_live g K (born_of p) d one (born_said d one K p) (born_one g K p d one);
  evasive_entries = λ earlier e later v at n known. evasive_entry g (chronicle g earlier) (Comes e ∷ chronicle g earlier) (comes_proper g earlier e) v known e.input n;
  evasive_places = λ d one K l a. no_live g K l d one;
}
