-- Who is born with an entry, as it is seen from outside: with one entry one peer at most is born, by a datagram that
-- announces it or by the first message of a connection, with which it enters.
use Rattle.std.proofs.Common.{◌≡◌, ℕ, ◌+◌, Bool, true, false, cond, not, ◌&&◌, ◌||◌, eqb, ltb, List, [], ◌∷◌, ◌++◌, length, map, filter, Option, Some, None, is_some, is_none, refl, sym, ap, ◌∙◌, subst, append_assoc, true≢false, eq-eqb, option_map}
use Rattle.std.specs.List.{AllByRecursion, list_any}
use Rattle.std.specs.Option.{option_or}
use Rattle.zre_values.specs.Endpoint.{endpoint_in}
use Rattle.zre_values.specs.declared.peer_id.PeerId.{PeerId}
use Rattle.zre_values.specs.declared.endpoint.Endpoint.{Endpoint}
use Rattle.zre_values.specs.declared.limits.TheConstants.{PEERS}
use Rattle.zre_beacon.specs.Beacon.{beacon_in}
use Rattle.zre_outside.specs.declared.act.Act.{Act}
use Rattle.zre_outside.specs.declared.act.Act.TheVariants as act
use Rattle.zre_outside.specs.declared.entry.Command.TheVariants as command
use Rattle.zre_outside.specs.declared.entry.Entry.{Entry}
use Rattle.zre_outside.specs.declared.entry.Input.{Input}
use Rattle.zre_outside.specs.declared.entry.Input.TheVariants as input
use Rattle.zre_zmtp.specs.declared.fault.ZmtpFault.{ZmtpFault}
use Rattle.zre_mailbox.specs.Talk.{Said, Arrived, Fault}
use Rattle.zre_mailbox.specs.declared.arrival.Arrival.TheVariants as arrival
use Rattle.zre_msg.specs.declared.message.Body.{Body}
use Rattle.zre_msg.specs.declared.message.Body.TheVariants as body
use Rattle.zre_msg.specs.declared.message.Message.{Message}
use Rattle.zre_peer.specs.Runs.{events_of, is_hello}
use Rattle.zre_peer.specs.Views.{view_of, is_small}
use Rattle.zre_peer.specs.declared.causes.Cause.TheVariants as cause
use Rattle.zre_peer.specs.declared.causes.CloseWhy.TheVariants as close
use Rattle.zre_peer.specs.declared.event.Event.{Event}
use Rattle.zre_peer.specs.declared.event.Event.TheVariants as event
use Rattle.zre_peer.specs.declared.view.View.{View}
use Rattle.zre_values.specs.declared.settings.Settings.{Settings as Config}
use Rattle.zre_journal.specs.Chronicle.{Mark, Comes, Starts, Counts, Closes, Born, Puts, Ends, IsEvasive, after}
use Rattle.zre_journal.specs.Arrivals.{end_of_run, start_unknown, start, at_first, at_message, at_said, at_place, at_places}
use Rattle.zre_journal.specs.Connections.{is_open, is_live, is_ignored, identity, runs, started, start_at, refuses, was_used}
use Rattle.zre_journal.specs.Chronicle.{ever}
use Rattle.zre_journal.specs.Done.{done, is_offered, offers, acts_at}
use Rattle.zre_journal.specs.Events.{events_at}
use Rattle.zre_journal.specs.Happens.{is_welcome, at_beacon, at_datagram, at_input, has_stopped, with_entry}
use Rattle.zre_journal.specs.Heard.{newly_completed}
use Rattle.zre_journal.specs.Peers.{Life, lives, births, life, life_of, is_entered, view}
use Rattle.zre_journal.specs.Proper.{IsProper}
use Rattle.zre_journal.specs.Pushes.{birth, hello}
use Rattle.zre_journal.specs.Told.{told, told_at, by_message, exit, becoming_evasive}
use Rattle.zre_journal.proofs.JoinedEntries.{after-append, told-append, done-append}
use Rattle.zre_journal.proofs.KnownPeers.{newborn_known}
use Rattle.zre_journal.proofs.SaidOnConnections.{input_allowed}
use Rattle.zre_journal.proofs.ProperPeers.{Comes-proper}
use Rattle.zre_journal.proofs.WhenMarksCome.{May, Allowed, Each, steps, choice}
use Rattle.zre_journal.proofs.EventsInTurn.{first_is_hello}
use Rattle.zre_journal.proofs.NumberedLists.{All-join}
use Rattle.zre_audit.specs.Exchanged.{peer_on}
use Rattle.zre_audit.specs.Seen.{asked_by, announced_by, is_connect, entered_by, first_entered, born_with}
use Rattle.zre_audit.proofs.SilentMarks.{BearsNone, SaysNone, IsStill, AreStill, still_both, Leaves, leaves_all, SaysAsMuch, says_all, connects_none, still_run, still_opened, still_shut, still_linked, still_unlinked, still_took, still_reply, still_tick, still_stop, still_join, still_leave, still_shaken, still_later}

-- ---- a connection that has started a run starts no other

started_one : (c : ℕ) (h : Mark) (H : List Mark) → is_some (started c H) ≡ true → is_some (started c (h ∷ H)) ≡ true
started_one c h H s = by (start_at c h)
  where
    by : (o : Option ℕ) → is_some (option_or o (started c H)) ≡ true
    by None = s
    by (Some l) = refl

started_stays : (c : ℕ) (hs H : List Mark) → is_some (started c H) ≡ true → is_some (started c (after hs H)) ≡ true
started_stays c [] H s = s
started_stays c (h ∷ hs) H s = started_stays c hs (h ∷ H) (started_one c h H s)

module _ (g : Config) where
  still_fault : (c : ℕ) (f : ZmtpFault) (K : List Mark) → AreStill (end_of_run g (runs c K) cause.Fault ++ Closes c (close.Zmtp f) ∷ [])
  still_fault c f K = still_both (end_of_run g (runs c K) cause.Fault) (Closes c (close.Zmtp f) ∷ []) (still_run g (runs c K) cause.Fault) ((tt, tt, tt), tt)

  later_place : (c : ℕ) (said : Said) (K : List Mark) → is_some (started c K) ≡ true → AreStill (at_place g c said K)
  later_place c said K s = choice AreStill (is_live c K) _ _ (λ e. by said e) (λ e. tt)
    where
      message : (o : Option ℕ) → runs c K ≡ o → (m : Message) → (is_open c K && not (is_ignored c K)) ≡ true → AreStill (at_message g c o m K)
      message (Some l) r m e = still_later g c l m K
      message None r m e = absurd (true≢false (sym e ∙ ap (λ b. is_open c K && not b) ignored ∙ off (is_open c K)))
        where
          ignored : is_ignored c K ≡ true
          ignored = ap (λ o. is_none o && was_used c K) r ∙ ap (λ b. ever (refuses c) K || b) s ∙ on (ever (refuses c) K)
            where
              on : (b : Bool) → (b || true) ≡ true
              on true = refl
              on false = refl

          off : (b : Bool) → (b && false) ≡ false
          off true = refl
          off false = refl

      by : (said : Said) → is_live c K ≡ true → AreStill (at_said g c said K)
      by (Arrived arrival.Greeted) e = ((tt, tt, tt), tt)
      by (Arrived (arrival.Shaken p)) e = still_shaken g c p (identity c K) K
      by (Arrived (arrival.Ping t)) e = ((tt, tt, tt), tt)
      by (Arrived (arrival.Message m)) e = message (runs c K) refl m e
      by (Fault f) e = still_fault c f K

  later_places : (c : ℕ) (all : List Said) (K : List Mark) → is_some (started c K) ≡ true → AreStill (at_places g c all K)
  later_places c [] K s = tt
  later_places c (said ∷ all) K s =
      still_both (at_place g c said K) (at_places g c all (after (at_place g c said K) K)) (later_place c said K s)
      (later_places c all (after (at_place g c said K) K) (started_stays c (at_place g c said K) K s))

  -- ---- one place

  data AtPlace (c : ℕ) (hs K : List Mark) : Type 0 where
    StaysAt : AreStill hs → AtPlace c hs K
    RunsAt : (l : ℕ) (m : Message) → hs ≡ Starts c l m ∷ [] → AtPlace c hs K
    BearsAt : (p : PeerId) (e : Endpoint) (m : Message) → hs ≡ birth g p e K ++ Starts c (births K + 1) m ∷ [] → AtPlace c hs K

  which : (c : ℕ) (K : List Mark) (b : Bool) (hs ks : List Mark) → AtPlace c hs K → AtPlace c ks K → AtPlace c (cond b hs ks) K
  which c K true hs ks x y = x
  which c K false hs ks x y = y

  start_place : (c : ℕ) (p : PeerId) (m : Message) (o : Option Life) (K : List Mark) → AtPlace c (start g c p m o K) K
  start_place c p m (Some v) K = RunsAt v.link m refl
  start_place c p m None K = by (endpoint_in (view_of (m ∷ [])).endpoint)
    where
      by : (o : Option Endpoint) → AtPlace c (start_unknown g c p m o K) K
      by None = StaysAt ((tt, tt, tt), tt)
      by (Some e) = which c K (ltb (length (lives K)) PEERS) _ _ (BearsAt p e m refl) (StaysAt ((tt, tt, tt), tt))

  first_place : (c : ℕ) (o : Option PeerId) (m : Message) (K : List Mark) → AtPlace c (at_first g c o m K) K
  first_place c None m K = StaysAt tt
  first_place c (Some p) m K =
      which c K (not (is_hello m.body && eqb m.sequence 1)) _ _ (StaysAt ((tt, tt, tt), tt))
      (which c K (not (is_small (view_of (m ∷ [])))) _ _ (StaysAt ((tt, tt, tt), tt)) (start_place c p m (life_of p K) K))

  message_place : (c : ℕ) (o : Option ℕ) (m : Message) (K : List Mark) → AtPlace c (at_message g c o m K) K
  message_place c None m K = first_place c (identity c K) m K
  message_place c (Some l) m K = StaysAt (still_later g c l m K)

  said_place : (c : ℕ) (said : Said) (K : List Mark) → AtPlace c (at_said g c said K) K
  said_place c (Arrived arrival.Greeted) K = StaysAt ((tt, tt, tt), tt)
  said_place c (Arrived (arrival.Shaken p)) K = StaysAt (still_shaken g c p (identity c K) K)
  said_place c (Arrived (arrival.Ping t)) K = StaysAt ((tt, tt, tt), tt)
  said_place c (Arrived (arrival.Message m)) K = message_place c (runs c K) m K
  said_place c (Fault f) K = StaysAt (still_fault c f K)

  place : (c : ℕ) (said : Said) (K : List Mark) → AtPlace c (at_place g c said K) K
  place c said K = which c K (is_live c K) _ _ (said_place c said K) (StaysAt tt)

  -- ---- an entry

  pub data Brings (i : Input) (hs K : List Mark) : Type 0 where
    Stays : AreStill hs → Brings i hs K
    Runs : (front back : List Mark) (c l : ℕ) (m : Message) → hs ≡ front ++ Starts c l m ∷ back → AreStill front → AreStill back → Brings i hs K
    Bears : (front back : List Mark) (c : ℕ) (p : PeerId) (e : Endpoint) (m : Message) → hs ≡ front ++ (birth g p e (after front K) ++ Starts c (births (after front K) + 1) m ∷ back)
        → AreStill front → AreStill back → announced_by i ≡ None → Brings i hs K
    Announces : (p : PeerId) (e : Endpoint) → hs ≡ birth g p e K → announced_by i ≡ Some p → Brings i hs K

  places : (i : Input) → announced_by i ≡ None → (c : ℕ) (all : List Said) (K : List Mark) → Brings i (at_places g c all K) K
  places i n c [] K = Stays tt
  places i n c (said ∷ all) K = by (at_place g c said K) (place c said K) (places i n c all (after (at_place g c said K) K))
    where
      rest_of : List Mark → List Mark
      rest_of hs = at_places g c all (after hs K)

      further : (hs : List Mark) → AreStill hs → Brings i (rest_of hs) (after hs K) → Brings i (hs ++ rest_of hs) K
      further hs s (Stays r) = Stays (still_both hs (rest_of hs) s r)
      further hs s (Runs front back d l m e f b) = Runs (hs ++ front) back d l m (ap (λ ks. hs ++ ks) e ∙ sym (append_assoc hs front (Starts d l m ∷ back))) (still_both hs front s f) b
      further hs s (Bears front back d p e m h f b a) =
          let same : after front (after hs K) ≡ after (hs ++ front) K = sym (after-append hs front K) in
          Bears (hs ++ front) back d p e m
          (ap (λ ks. hs ++ ks) h ∙ sym (append_assoc hs front (birth g p e (after front (after hs K)) ++ Starts d (births (after front (after hs K)) + 1) m ∷ back))
          ∙ ap (λ J. (hs ++ front) ++ (birth g p e J ++ Starts d (births J + 1) m ∷ back)) same)
          (still_both hs front s f) b a
      further hs s (Announces p e h a) = absurd (let z : None ≡ Some p = sym n ∙ a in cc)

      by : (hs : List Mark) → AtPlace c hs K → Brings i (rest_of hs) (after hs K) → Brings i (hs ++ rest_of hs) K
      by hs (StaysAt s) r = further hs s r
      by hs (RunsAt l m e) r =
          let here : is_some (started c (after hs K)) ≡ true = ap (λ ks. is_some (started c (after ks K))) e ∙ mine c l (started c K) in
          Runs [] (rest_of hs) c l m (ap (λ ks. ks ++ rest_of hs) e) tt (later_places c all (after hs K) here)
        where
          mine : (c l : ℕ) (o : Option ℕ) → is_some (option_or (cond (eqb c c) (Some l) None) o) ≡ true
          mine c l o = ap (λ b. is_some (option_or (cond b (Some l) None) o)) (eq-eqb c c refl)
      by hs (BearsAt p e m h) r =
          let here : is_some (started c (after hs K)) ≡ true = ap (λ ks. is_some (started c (after ks K))) h ∙ mine c (births K + 1) (started c K) in
          Bears [] (rest_of hs) c p e m (ap (λ ks. ks ++ rest_of hs) h) tt (later_places c all (after hs K) here) n
        where
          mine : (c l : ℕ) (o : Option ℕ) → is_some (option_or (cond (eqb c c) (Some l) None) o) ≡ true
          mine c l o = ap (λ b. is_some (option_or (cond b (Some l) None) o)) (eq-eqb c c refl)

  datagram : (from o : List ℕ) (K : List Mark) → Brings (input.Datagram from o) (at_datagram g from (beacon_in o) K) K
  datagram from o K = by (beacon_in o) refl
    where
      i : Input
      i = input.Datagram from o

      pick : (b : Bool) (hs ks : List Mark) → Brings i hs K → Brings i ks K → Brings i (cond b hs ks) K
      pick true hs ks x y = x
      pick false hs ks x y = y

      known : (b : PeerId × ℕ) → beacon_in o ≡ Some b → (v : Option Life) → Brings i (at_beacon g from b.0 b.1 v K) K
      known b e (Some v) = pick (eqb b.1 0) _ _ (Stays ((tt, tt, tt), tt)) (Stays ((tt, tt, tt), tt))
      known b e None = pick (is_welcome g b.0 b.1 (length (lives K))) _ _ (Announces b.0 (record { addr = from; port = b.1 }) refl (ap (option_map (λ (c : PeerId × ℕ). c.0)) e)) (Stays tt)

      by : (b : Option (PeerId × ℕ)) → beacon_in o ≡ b → Brings i (at_datagram g from b K) K
      by None e = Stays tt
      by (Some b) e = known b e (life_of b.0 K)

  brings : (i : Input) → asked_by i ≡ None → (H K : List Mark) → Brings i (at_input g i H K) K
  brings (input.Datagram from o) n H K = datagram from o K
  brings (input.Opened c) n H K = Stays (still_opened g c K)
  brings (input.Piece c o) n H K = places (input.Piece c o) refl c (newly_completed g.id c H K) K
  brings (input.Shut c) n H K = Stays (still_shut g c K)
  brings (input.Linked l) n H K = Stays (still_linked g l (life l K) K)
  brings (input.Reply l o) n H K = Stays (still_reply g l (life l K) H K)
  brings (input.Unlinked l) n H K = Stays (still_unlinked g l (life l K))
  brings (input.Took l c) n H K = Stays (still_took g l c (life l K) K)
  brings input.Tick n H K = Stays (still_tick g K)
  brings (input.Do (command.Join group)) n H K = Stays (still_join g group K)
  brings (input.Do (command.Leave group)) n H K = Stays (still_leave g group K)
  brings (input.Do (command.Whisper p content)) n H K = absurd (let z : Some (body.Whisper content) ≡ None = n in cc)
  brings (input.Do (command.Shout group content)) n H K = absurd (let z : Some (body.Shout group content) ≡ None = n in cc)
  brings (input.Do (command.Bad c)) n H K = Stays ((tt, tt, tt), tt)
  brings (input.Do command.Quit) n H K = Stays (still_stop g K)
  brings input.End n H K = Stays (still_stop g K)

-- ---- what is seen

any-append : {A : Type 0} (t : A → Bool) (xs ys : List A) → list_any t (xs ++ ys) ≡ (list_any t xs || list_any t ys)
any-append t [] ys = refl
any-append t (x ∷ xs) ys = ap (λ b. t x || b) (any-append t xs ys) ∙ by (t x)
  where
    by : (b : Bool) → (b || (list_any t xs || list_any t ys)) ≡ ((b || list_any t xs) || list_any t ys)
    by true = refl
    by false = refl

offers_none : (vs : List Life) → list_any is_connect (map (λ (v : Life). act.Offer v.link) vs) ≡ false
offers_none [] = refl
offers_none (v ∷ vs) = offers_none vs

entered-append : (xs ys : List Event) → first_entered (xs ++ ys) ≡ option_or (first_entered xs) (first_entered ys)
entered-append [] ys = refl
entered-append (x ∷ xs) ys = ap (option_or (entered_by x)) (entered-append xs ys) ∙ by (entered_by x)
  where
    by : (o : Option PeerId) → option_or o (option_or (first_entered xs) (first_entered ys)) ≡ option_or (option_or o (first_entered xs)) (first_entered ys)
    by None = refl
    by (Some p) = refl

later_enters : (id : PeerId) (v : View) (b : Body) → is_hello b ≡ false → first_entered (events_of id v b) ≡ None
later_enters id v (body.Hello endpoint groups status name headers) h = absurd (true≢false h)
later_enters id v (body.Whisper content) h = refl
later_enters id v (body.Shout group content) h = refl
later_enters id v (body.Join group status) h = refl
later_enters id v (body.Leave group status) h = refl
later_enters id v body.Ping h = refl
later_enters id v body.PingOk h = refl
later_enters id v (body.Other number rest more) h = refl

hello_enters : (id : PeerId) (v : View) (b : Body) → is_hello b ≡ true → first_entered (events_of id v b) ≡ Some id
hello_enters id v (body.Hello endpoint groups status name headers) h = refl
hello_enters id v (body.Whisper content) h = absurd (true≢false (sym h))
hello_enters id v (body.Shout group content) h = absurd (true≢false (sym h))
hello_enters id v (body.Join group status) h = absurd (true≢false (sym h))
hello_enters id v (body.Leave group status) h = absurd (true≢false (sym h))
hello_enters id v body.Ping h = absurd (true≢false (sym h))
hello_enters id v body.PingOk h = absurd (true≢false (sym h))
hello_enters id v (body.Other number rest more) h = absurd (true≢false (sym h))

mark_enters : (h : Mark) (H : List Mark) → IsStill h → May h H → first_entered (told_at h H) ≡ None
mark_enters (Starts c l m) H s y = absurd s.2
mark_enters (Counts c l m) H s y = by (life l H)
  where
    by : (o : Option Life) → first_entered (by_message o m H) ≡ None
    by None = refl
    by (Some v) = later_enters v.id (view v.link H) m.body y.later
mark_enters (Ends l why) H s y = by (life l H)
  where
    by : (o : Option Life) → first_entered (exit o why H) ≡ None
    by None = refl
    by (Some v) = in_it (is_entered H v)
      where
        in_it : (b : Bool) → first_entered (cond b (event.Exit v.id (view v.link H).name why ∷ []) []) ≡ None
        in_it true = refl
        in_it false = refl
mark_enters (IsEvasive l) H s y = by (life l H)
  where
    by : (o : Option Life) → first_entered (becoming_evasive o H) ≡ None
    by None = refl
    by (Some v) = refl
mark_enters _ H s y = refl

none_enters : (hs H : List Mark) → AreStill hs → Allowed hs H → first_entered (told hs H) ≡ None
none_enters [] H s a = refl
none_enters (h ∷ hs) H s a = entered-append (told_at h H) (told hs (h ∷ H)) ∙ ap (λ o. option_or o (first_entered (told hs (h ∷ H)))) (mark_enters h H s.0 a.0) ∙ none_enters hs (h ∷ H) s.1 a.1

each_front : (P : Mark → List Mark → Type 0) (hs ks H : List Mark) → Each P (hs ++ ks) H → Each P hs H
each_front P [] ks H a = tt
each_front P (h ∷ hs) ks H a = (a.0, each_front P hs ks (h ∷ H) a.1)

each_back : (P : Mark → List Mark → Type 0) (hs ks H : List Mark) → Each P (hs ++ ks) H → Each P ks (after hs H)
each_back P [] ks H a = a
each_back P (h ∷ hs) ks H a = each_back P hs ks (h ∷ H) a.1

-- ---- what is added

pub data Added (H K : List Mark) (b : Option PeerId) : Type 0 where
  NoneIs : b ≡ None → Leaves H K → SaysAsMuch H K → Added H K b
  OneIs : (p : PeerId) → b ≡ Some p → births K ≡ births H + 1 → ((l : ℕ) → eqb l (births H + 1) ≡ false → peer_on l K ≡ peer_on l H) → peer_on (births H + 1) K ≡ Some p → SaysAsMuch H K → Added H K b

bears_none : (hs : List Mark) → AreStill hs → AllByRecursion BearsNone hs
bears_none [] s = tt
bears_none (h ∷ hs) s = (s.0.0, bears_none hs s.1)

says_none : (hs : List Mark) → AreStill hs → AllByRecursion SaysNone hs
says_none [] s = tt
says_none (h ∷ hs) s = (s.0.1, says_none hs s.1)

module _ (g : Config) (i : Input) (M : List Mark) (q : IsProper M) (hs : List Mark) (may : Allowed hs M) (vs : List Life) where
  abbrev acts_of : List Act
  acts_of = done g.id hs ++ map (λ (v : Life). act.Offer v.link) vs

  abbrev seen : Option PeerId
  seen = born_with (announced_by i) acts_of (told hs M)

  connects : (b : Bool) → list_any is_connect (done g.id hs) ≡ b → list_any is_connect acts_of ≡ b
  connects b e = any-append is_connect (done g.id hs) (map (λ (v : Life). act.Offer v.link) vs) ∙ (λ j. e j || offers_none vs j) ∙ by b
    where
      by : (b : Bool) → (b || false) ≡ b
      by true = refl
      by false = refl

  seen_none : list_any is_connect (done g.id hs) ≡ false → seen ≡ None
  seen_none e = ap (λ b. cond b (option_or (announced_by i) (first_entered (told hs M))) None) (connects false e)

  seen_some : list_any is_connect (done g.id hs) ≡ true → seen ≡ option_or (announced_by i) (first_entered (told hs M))
  seen_some e = ap (λ b. cond b (option_or (announced_by i) (first_entered (told hs M))) None) (connects true e)

  of_stays : AreStill hs → Added M (after hs M) seen
  of_stays s = NoneIs (seen_none (connects_none g.id hs (bears_none hs s))) (leaves_all hs M (bears_none hs s)) (says_all hs M (says_none hs s))

  of_runs : (front back : List Mark) (c l : ℕ) (m : Message) → hs ≡ front ++ Starts c l m ∷ back → AreStill front → AreStill back → Added M (after hs M) seen
  of_runs front back c l m e f b = NoneIs (seen_none (connects_none g.id hs bears)) (leaves_all hs M bears) (says_all hs M says)
    where
      bears : AllByRecursion BearsNone hs
      bears = subst (AllByRecursion BearsNone) (sym e) (All-join BearsNone front (Starts c l m ∷ back) (bears_none front f) (tt, bears_none back b))

      says : AllByRecursion SaysNone hs
      says = subst (AllByRecursion SaysNone) (sym e) (All-join SaysNone front (Starts c l m ∷ back) (says_none front f) (tt, says_none back b))

  -- marks that bear one peer, and nobody else
  of_birth : (front back : List Mark) (p : PeerId) (e : Endpoint) → hs ≡ front ++ (birth g p e (after front M) ++ back) → AreStill front → AllByRecursion BearsNone back → AllByRecursion SaysNone back → seen ≡ Some p → Added M (after hs M) seen
  of_birth front back p e h f b s z = OneIs p z count others new says
    where
      J : List Mark
      J = after front M

      n : ℕ
      n = births M + 1

      first : Leaves M J
      first = leaves_all front M (bears_none front f)

      L : List Mark
      L = Puts (births J + 1) (hello g J) ∷ Born (births J + 1) p e ∷ J

      whole : after hs M ≡ after back L
      whole = ap (λ ks. after ks M) h ∙ after-append front (birth g p e J ++ back) M

      last : Leaves L (after back L)
      last = leaves_all back L b

      count : births (after hs M) ≡ n
      count = ap births whole ∙ last.same_births ∙ ap (λ k. k + 1) first.same_births

      others : (l : ℕ) → eqb l n ≡ false → peer_on l (after hs M) ≡ peer_on l M
      others l off = ap (peer_on l) whole ∙ last.same_peers l ∙ ap (λ k. option_or (cond (eqb l (k + 1)) (Some p) None) (peer_on l J)) first.same_births ∙ ap (λ t. option_or (cond t (Some p) None) (peer_on l J)) off ∙ first.same_peers l

      new : peer_on n (after hs M) ≡ Some p
      new = ap (peer_on n) whole ∙ last.same_peers n ∙ ap (λ k. option_or (cond (eqb n (k + 1)) (Some p) None) (peer_on n J)) first.same_births ∙ ap (λ t. option_or (cond t (Some p) None) (peer_on n J)) (eq-eqb n n refl)

      says : SaysAsMuch M (after hs M)
      says = subst (λ K. SaysAsMuch M K) (sym (ap (λ ks. after ks M) h)) (says_all (front ++ (birth g p e J ++ back)) M (All-join SaysNone front (birth g p e J ++ back) (says_none front f) (tt, (refl, s))))

  connects_birth : (front back : List Mark) (p : PeerId) (e : Endpoint) → hs ≡ front ++ (birth g p e (after front M) ++ back) → list_any is_connect (done g.id hs) ≡ true
  connects_birth front back p e h =
      ap (λ ks. list_any is_connect (done g.id ks)) h ∙ ap (list_any is_connect) (done-append g.id front (birth g p e (after front M) ++ back))
      ∙ any-append is_connect (done g.id front) (done g.id (birth g p e (after front M) ++ back)) ∙ by (list_any is_connect (done g.id front))
    where
      by : (b : Bool) → (b || true) ≡ true
      by true = refl
      by false = refl

  of_bears : (front back : List Mark) (c : ℕ) (p : PeerId) (e : Endpoint) (m : Message) → hs ≡ front ++ (birth g p e (after front M) ++ Starts c (births (after front M) + 1) m ∷ back) → AreStill front → AreStill back → announced_by i ≡ None → Added M (after hs M) seen
  of_bears front back c p e m h f b a = of_birth front (Starts c (births (after front M) + 1) m ∷ back) p e h f (tt, bears_none back b) (tt, says_none back b) enters
    where
      J : List Mark
      J = after front M

      n : ℕ
      n = births J + 1

      L : List Mark
      L = Puts n (hello g J) ∷ Born n p e ∷ J

      parts : Allowed (front ++ (birth g p e J ++ Starts c n m ∷ back)) M
      parts = subst (λ ks. Allowed ks M) h may

      proper : IsProper J
      proper = steps front M q (each_front May front (birth g p e J ++ Starts c n m ∷ back) M parts)

      ready : May (Starts c n m) L
      ready = (each_back May front (birth g p e J ++ Starts c n m ∷ back) M parts).1.1.0

      is_new : life n L ≡ Some (record { link = n; id = p; endpoint = e })
      is_new = newborn_known J proper p e

      starts : first_entered (told_at (Starts c n m) L) ≡ Some p
      starts = ap (λ o. first_entered (by_message o m L)) is_new ∙ hello_enters p (view n L) m.body (first_is_hello m ready.first)

      told_is : first_entered (told hs M) ≡ Some p
      told_is =
          ap (λ ks. first_entered (told ks M)) h ∙ ap first_entered (told-append front (birth g p e J ++ Starts c n m ∷ back) M)
          ∙ entered-append (told front M) (told_at (Starts c n m) L ++ told back (Starts c n m ∷ L))
          ∙ ap (λ o. option_or o (first_entered (told_at (Starts c n m) L ++ told back (Starts c n m ∷ L)))) (none_enters front M f (each_front May front (birth g p e J ++ Starts c n m ∷ back) M parts))
          ∙ entered-append (told_at (Starts c n m) L) (told back (Starts c n m ∷ L))
          ∙ ap (λ o. option_or o (first_entered (told back (Starts c n m ∷ L)))) starts

      enters : seen ≡ Some p
      enters = seen_some (connects_birth front (Starts c n m ∷ back) p e h) ∙ ap (λ o. option_or o (first_entered (told hs M))) a ∙ told_is

  of_announces : (p : PeerId) (e : Endpoint) → hs ≡ birth g p e M → announced_by i ≡ Some p → Added M (after hs M) seen
  of_announces p e h a =
      let whole : hs ≡ birth g p e M ++ [] = h in
      of_birth [] [] p e whole tt tt tt (seen_some (connects_birth [] [] p e whole) ∙ ap (λ o. option_or o (first_entered (told hs M))) a)

  added : Brings g i hs M → Added M (after hs M) seen
  added (Stays s) = of_stays s
  added (Runs front back c l m e f b) = of_runs front back c l m e f b
  added (Bears front back c p e m h f b a) = of_bears front back c p e m h f b a
  added (Announces p e h a) = of_announces p e h a

module _ (g : Config) (e : Entry) (H : List Mark) (q : IsProper H) (n : asked_by e.input ≡ None) where
  abbrev M : List Mark
  M = Comes e ∷ H

  from_entry : (b : Option PeerId) → Added M (with_entry g e H) b → Added H (with_entry g e H) b
  from_entry b (NoneIs z l s) = NoneIs z (record { same_births = l.same_births; same_peers = l.same_peers }) s
  from_entry b (OneIs p z c o w s) = OneIs p z c o w s

  -- with an entry that asks for nothing to be said
  pub entry_adds : Added H (with_entry g e H) (born_with (announced_by e.input) (acts_at g e H) (events_at g e H))
  entry_adds = from_entry (born_with (announced_by e.input) (acts_at g e H) (events_at g e H)) (by (has_stopped H) refl)
    where
      by : (b : Bool) → has_stopped H ≡ b → Added M (after (cond b [] (at_input g e.input H M)) M)
          (born_with (announced_by e.input) (cond b [] (done g.id (cond b [] (at_input g e.input H M)) ++ offers g e (cond b [] (at_input g e.input H M)) (after (cond b [] (at_input g e.input H M)) M))) (told (cond b [] (at_input g e.input H M)) M))
      by true s = NoneIs refl (record { same_births = refl; same_peers = λ l. refl }) (λ l. refl)
      by false s = added g e.input M (Comes-proper H q e) (at_input g e.input H M) (input_allowed g e.input H M (Comes-proper H q e)) (filter (is_offered g e (at_input g e.input H M) (after (at_input g e.input H M) M)) (lives (after (at_input g e.input H M) M))) (brings g e.input n H M)
