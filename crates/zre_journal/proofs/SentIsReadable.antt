-- What a node puts on its links is read as it was spelled, and its own groups are within their limits.
use Rattle.std.proofs.Common.{◌≡◌, ℕ, ◌+◌, ◌%◌, ◌^◌, ◌≤◌, ◌<◌, Bool, true, false, cond, not, ◌&&◌, ◌||◌, eqb, ltb, leb, List, [], ◌∷◌, ◌++◌, length, map, filter, Option, Some, None, refl, sym, subst, arith, ltb-false, leb-false, true≢false}
use Rattle.std.specs.Prelude.{sum_by}
use Rattle.std.specs.Int.{w64, to_be_bytes}
use Rattle.std.specs.Str.{bytes_eq}
use Rattle.std.specs.List.{AllByRecursion}
use Rattle.std.proofs.lemmas.List.{length-append}
use Rattle.std.proofs.lemmas.List.Sums.{sum_by-cons}
use Rattle.std.proofs.lemmas.Slice.Eq.{bytes_eq-Decides}
use Rattle.zre_values.specs.declared.limits.TheConstants.{PEERS, CONNECTIONS, MESSAGE_FRAMES, MESSAGE_OCTETS, UNSENT_OCTETS, OWN_GROUPS, GROUP_OCTETS}
use Rattle.zre_values.specs.declared.peer_id.PeerId.{PeerId}
use Rattle.zre_values.specs.declared.endpoint.Endpoint.{Endpoint}
use Rattle.zre_values.specs.Endpoint.{endpoint_in}
use Rattle.zre_values.specs.Framing.{frame}
use Rattle.zre_outside.specs.declared.entry.Command.{Command}
use Rattle.zre_outside.specs.declared.entry.Command.TheVariants as command
use Rattle.zre_outside.specs.declared.entry.Entry.{Entry}
use Rattle.zre_outside.specs.declared.entry.Input.{Input}
use Rattle.zre_outside.specs.declared.entry.Input.TheVariants as input
use Rattle.zre_beacon.specs.Beacon.{beacon_in}
use Rattle.zre_zmtp.specs.Laws.{IsWithinLimits}
use Rattle.zre_msg.specs.declared.message.Body.{Body}
use Rattle.zre_msg.specs.declared.message.Body.TheVariants as body
use Rattle.zre_msg.specs.declared.message.Message.{Message}
use Rattle.zre_msg.specs.Spelling.{FitsBody, fields, further, head, number_of, first_frame, spell, is_big}
use Rattle.zre_link.specs.Link.{answered, slow_at}
use Rattle.zre_link.specs.Heard.{reply_fault}
use Rattle.zre_link.specs.Text.{numbered_from, size_of}
use Rattle.zre_mailbox.specs.declared.arrival.Arrival.TheVariants as arrival
use Rattle.zre_mailbox.specs.Talk.{Said, Arrived, Fault}
use Rattle.zre_mailbox.specs.Utterances.{IsReadable}
use Rattle.zre_peer.specs.declared.causes.Cause.{Cause}
use Rattle.zre_peer.specs.declared.causes.Cause.TheVariants as cause
use Rattle.zre_peer.specs.declared.causes.CloseWhy.{CloseWhy}
use Rattle.zre_peer.specs.declared.causes.CloseWhy.TheVariants as close
use Rattle.zre_peer.specs.declared.causes.RefuseWhy.TheVariants as refuse
use Rattle.zre_peer.specs.Runs.{is_hello, due}
use Rattle.zre_peer.specs.Views.{view_of, is_small}
use Rattle.zre_peer.proofs.ViewsWithinLimits.{length-without}
use Rattle.zre_values.specs.declared.settings.Settings.{Settings as Config}
use Rattle.zre_journal.specs.Arrivals.{at_opened, end_of_run, at_shut, taken_over, start_unknown, start, at_first, answer_to, at_later, at_message, at_ready, at_said, at_place}
use Rattle.zre_journal.specs.Chronicle.{Mark, Comes, Closes, ClosesAtStop, Ends, IsEvasive, Puts, PutsPong, Joins, Leaves, Starts, Counts, Identifies, Refuses, after, followed}
use Rattle.zre_journal.specs.Commands.{has_group, is_too_big, at_whisper, is_member, at_stop, at_command}
use Rattle.zre_journal.specs.Config.{CanBe}
use Rattle.zre_journal.specs.Connections.{open_ones, is_open, is_new, identity, runs, is_live, other_with}
use Rattle.zre_journal.specs.Events.{chronicle}
use Rattle.zre_journal.specs.Happens.{is_welcome, at_beacon, at_datagram, at_input}
use Rattle.zre_journal.specs.LinkEntries.{at_linked, cause_by_reply, end_by, at_reply, at_unlinked, at_took}
use Rattle.zre_journal.specs.Links.{groups, status, line, unsent, is_linked, replies, newly_pinged}
use Rattle.zre_journal.specs.Peers.{Life, lives, life, life_of, births, counted, is_entered}
use Rattle.zre_journal.specs.Places.{is_piece}
use Rattle.zre_journal.specs.Pushes.{hello, push, push_all, birth}
use Rattle.zre_journal.specs.Ticks.{is_silent, is_evasive, probe, is_stale, at_tick}
use Rattle.zre_journal.proofs.HelloFits.{CanIntroduce, introduces}
use Rattle.zre_journal.proofs.BodiesOnLinks.{bodies_on}
use Rattle.zre_journal.proofs.NumberedLists.{All-append, All-without}
use Rattle.zre_journal.proofs.WhenMarksCome.{Each, both, choice}
use Rattle.zre_journal.proofs.PlaceByPlace.{walk}

-- ---- bodies

-- whatever its number is, a message with this body is read as it was spelled
pub record IsSendable (b : Body) : Type 0 where
  pub fits : FitsBody b
  pub within : (n : ℕ) → IsWithinLimits (spell (record { sequence = n; body = b }))

-- by what it adds to the head of the first frame
by_sizes : (b : Body) → FitsBody b → 1 + length (further b) ≤ MESSAGE_FRAMES → 6 + length (fields b) + sum_by length (further b) ≤ MESSAGE_OCTETS → IsSendable b
by_sizes b fits few short = record {
  fits = fits;
  within = λ n. record {
    some = omega arith;
    frames = omega (arith, few);
    octets = omega (arith, short, length-append (head (number_of b) n) (fields b), sum_by-cons length (head (number_of b) n ++ fields b) (further b));
  };
}

-- one that isn't too big
not_big : (b : Body) → FitsBody b → is_big (record { sequence = 0; body = b }) ≡ false → IsSendable b
not_big b fits small =
    let p = neither (ltb 1024 (length (spell (record { sequence = 0; body = b })))) (ltb 1048576 (sum_by length (spell (record { sequence = 0; body = b })))) small in
    by_sizes b fits (let e = ltb-false _ _ p.0 in omega (arith, e)) (let e = ltb-false _ _ p.1 in omega (arith, e, length-append (head (number_of b) 0) (fields b), sum_by-cons length (head (number_of b) 0 ++ fields b) (further b)))
  where
    neither : (s t : Bool) → (s || t) ≡ false → (s ≡ false) × (t ≡ false)
    neither true t e = absurd (true≢false e)
    neither false t e = (refl, e)

ping_sendable : IsSendable body.Ping
ping_sendable = by_sizes body.Ping tt (omega arith) (omega arith)

ping_ok_sendable : IsSendable body.PingOk
ping_ok_sendable = by_sizes body.PingOk tt (omega arith) (omega arith)

join_sendable : (group : List ℕ) (n : ℕ) → length group ≤ GROUP_OCTETS → IsSendable (body.Join group n)
join_sendable group n le = by_sizes (body.Join group n) (omega (arith, le)) (omega arith) (omega (arith, le, length-append (length group ∷ group) (n ∷ [])))

leave_sendable : (group : List ℕ) (n : ℕ) → length group ≤ GROUP_OCTETS → IsSendable (body.Leave group n)
leave_sendable group n le = by_sizes (body.Leave group n) (omega (arith, le)) (omega arith) (omega (arith, le, length-append (length group ∷ group) (n ∷ [])))

frame_long : (o : List ℕ) → length o ≤ length (frame 0 o)
frame_long o = by (ltb (length o) 256)
  where
    by : (t : Bool) → length o ≤ length (cond t (0 ∷ length o ∷ o) (2 ∷ (to_be_bytes w64 (length o) ++ o)))
    by true = omega arith
    by false = omega (arith, length-append (to_be_bytes w64 (length o)) o)

-- ---- groups within their limits, and bodies that are sent

module _ (g : Config) where
  pub record AreSent (H : List Mark) : Type 0 where
    pub groups_fit : AllByRecursion (λ group. length group ≤ GROUP_OCTETS) (groups H)
    pub few_groups : length (groups H) ≤ OWN_GROUPS
    pub sendable : (l : ℕ) → AllByRecursion IsSendable (bodies_on l H)

  -- a mark that keeps this
  abbrev pub Keeps : Mark → List Mark → Type 0
  Keeps (Puts l b) H = IsSendable b
  Keeps (Joins group) H = (length group ≤ GROUP_OCTETS) × (length (groups H) < OWN_GROUPS)
  Keeps _ H = Unit {0}

  kept : (h : Mark) (H : List Mark) → Keeps h H → AreSent H → AreSent (h ∷ H)
  kept (Puts l b) H k o = record { groups_fit = o.groups_fit; few_groups = o.few_groups; sendable = λ j. by j (eqb j l) }
    where
      by : (j : ℕ) (t : Bool) → AllByRecursion IsSendable (followed (bodies_on j H) (cond t (Some b) None))
      by j true = All-body (bodies_on j H) (o.sendable j)
        where
          All-body : (bs : List Body) → AllByRecursion IsSendable bs → AllByRecursion IsSendable (bs ++ b ∷ [])
          All-body [] a = (k, tt)
          All-body (x ∷ bs) a = (a.0, All-body bs a.1)
      by j false = o.sendable j
  kept (Joins group) H k o = record {
    groups_fit = All-append (λ x. length x ≤ GROUP_OCTETS) (groups H) group o.groups_fit k.0;
    few_groups = omega (arith, k.1, length-append (groups H) (group ∷ []));
    sendable = o.sendable;
  }
  kept (Leaves group) H k o = record {
    groups_fit = All-without (λ x. length x ≤ GROUP_OCTETS) group (groups H) o.groups_fit;
    few_groups = omega (arith, length-without group (groups H), o.few_groups);
    sendable = o.sendable;
  }
  kept _ H k o = record { groups_fit = o.groups_fit; few_groups = o.few_groups; sendable = o.sendable }

  -- ---- pushes

  abbrev E : List Mark → List Mark → Type 0
  E hs H = Each Keeps hs H

  push_keeps : (l : ℕ) (b : Body) (I H : List Mark) → IsSendable b → E (push g l b I) H
  push_keeps l b I H s = choice (λ hs. E hs H) (ltb UNSENT_OCTETS (unsent g l I + size_of (line l I) b)) _ _ (λ z. (tt, tt)) (λ z. (s, tt))

  pushes_keep : (vs : List Life) (b : Body) (I H : List Mark) → IsSendable b → E (push_all g vs b I) H
  pushes_keep [] b I H s = tt
  pushes_keep (v ∷ vs) b I H s = let p = push g v.link b I in both Keeps p _ H (push_keeps v.link b I H s) (pushes_keep vs b (after p I) (after p H) s)

  probes_keep : (vs : List Life) (I H : List Mark) → E (probe g vs I) H
  probes_keep [] I H = tt
  probes_keep (v ∷ vs) I H =
      let p = push g v.link body.Ping I in
      (tt, both Keeps p _ (IsEvasive v.link ∷ H) (push_keeps v.link body.Ping I (IsEvasive v.link ∷ H) ping_sendable) (probes_keep vs (after p (IsEvasive v.link ∷ I)) (after p (IsEvasive v.link ∷ H))))

  -- ---- marks of one kind

  ends_keep : (why : Cause) (vs : List Life) (H : List Mark) → E (map (λ (v : Life). Ends v.link why) vs) H
  ends_keep why [] H = tt
  ends_keep why (v ∷ vs) H = (tt, ends_keep why vs (Ends v.link why ∷ H))

  closes_keep : (why : CloseWhy) (cs : List ℕ) (H : List Mark) → E (map (λ c. Closes c why) cs) H
  closes_keep why [] H = tt
  closes_keep why (c ∷ cs) H = (tt, closes_keep why cs (Closes c why ∷ H))

  drops_keep : (cs : List ℕ) (H : List Mark) → E (map (λ c. ClosesAtStop c) cs) H
  drops_keep [] H = tt
  drops_keep (c ∷ cs) H = (tt, drops_keep cs (ClosesAtStop c ∷ H))

  pongs_keep : (l : ℕ) (ts : List (List ℕ)) (H : List Mark) → E (map (λ t. PutsPong l t) ts) H
  pongs_keep l [] H = tt
  pongs_keep l (t ∷ ts) H = (tt, pongs_keep l ts (PutsPong l t ∷ H))

  run_end : (o : Option ℕ) (why : Cause) (H : List Mark) → E (end_of_run g o why) H
  run_end None why H = tt
  run_end (Some l) why H = (tt, tt)

  -- the run of a connection ends, and one more mark comes
  run_and : (o : Option ℕ) (why : Cause) (h : Mark) (H : List Mark) → ((K : List Mark) → Keeps h K) → E (end_of_run g o why ++ h ∷ []) H
  run_and o why h H k = both Keeps (end_of_run g o why) (h ∷ []) H (run_end o why H) (k (after (end_of_run g o why) H), tt)

  -- ---- what comes about, after K

  module _ (can : CanBe g) (K : List Mark) (o : AreSent K) where
    introduce : CanIntroduce g K
    introduce = record { valid = can.valid; sixteen = can.sixteen; host_is = can.host_is; port_fits = can.port_fits; groups_fit = o.groups_fit; few_groups = o.few_groups }

    hello_sendable : IsSendable (hello g K)
    hello_sendable =
        let i = introduces g K introduce in
        let m : Message = record { sequence = 1; body = hello g K } in
        by_sizes (hello g K) i.body_fits (omega arith) (let f = frame_long (first_frame m) in let s = i.is_short in omega (arith, f, s, length-append (head 1 1) (fields (hello g K))))

    birth_keeps : (p : PeerId) (e : Endpoint) → E (birth g p e K) K
    birth_keeps p e = (tt, (hello_sendable, tt))

    datagram_keeps : (from : List ℕ) (b : Option (PeerId × ℕ)) → E (at_datagram g from b K) K
    datagram_keeps from None = tt
    datagram_keeps from (Some b) = by (life_of b.0 K)
      where
        by : (v : Option Life) → E (at_beacon g from b.0 b.1 v K) K
        by (Some v) = choice (λ hs. E hs K) (eqb b.1 0) _ _ (λ z. (tt, tt)) (λ z. (tt, tt))
        by None = choice (λ hs. E hs K) (is_welcome g b.0 b.1 (length (lives K))) _ _ (λ z. birth_keeps b.0 (record { addr = from; port = b.1 })) (λ z. tt)

    opened_keeps : (c : ℕ) → E (at_opened g c K) K
    opened_keeps c = choice (λ hs. E hs K) (is_new c K) _ _ (λ z. choice (λ hs. E hs K) (ltb (length (open_ones K)) CONNECTIONS) _ _ (λ y. (tt, tt)) (λ y. (tt, tt))) (λ z. tt)

    shut_keeps : (c : ℕ) → E (at_shut g c K) K
    shut_keeps c = choice (λ hs. E hs K) (is_open c K) _ _ (λ z. run_and (runs c K) cause.Shut _ K (λ J. tt)) (λ z. tt)

    taken_keeps : (d : Option ℕ) → E (taken_over g d K) K
    taken_keeps None = tt
    taken_keeps (Some d) = run_and (runs d K) cause.Taken _ K (λ J. tt)

    unknown_keeps : (c : ℕ) (p : PeerId) (m : Message) (e : Option Endpoint) → E (start_unknown g c p m e K) K
    unknown_keeps c p m None = (tt, tt)
    unknown_keeps c p m (Some e) = choice (λ hs. E hs K) (ltb (length (lives K)) PEERS) _ _ (λ z. both Keeps (birth g p e K) (Starts c (births K + 1) m ∷ []) K (birth_keeps p e) (tt, tt)) (λ z. (tt, tt))

    start_keeps : (c : ℕ) (p : PeerId) (m : Message) (v : Option Life) → E (start g c p m v K) K
    start_keeps c p m (Some v) = (tt, tt)
    start_keeps c p m None = unknown_keeps c p m (endpoint_in (view_of (m ∷ [])).endpoint)

    first_keeps : (c : ℕ) (i : Option PeerId) (m : Message) → E (at_first g c i m K) K
    first_keeps c None m = tt
    first_keeps c (Some p) m = choice (λ hs. E hs K) (not (is_hello m.body && eqb m.sequence 1)) _ _ (λ z. (tt, tt)) (λ z. choice (λ hs. E hs K) (not (is_small (view_of (m ∷ [])))) _ _ (λ y. (tt, tt)) (λ y. start_keeps c p m (life_of p K)))

    answer_keeps : (l : ℕ) (b : Body) (H : List Mark) → E (answer_to g l b K) H
    answer_keeps l body.Ping H = push_keeps l body.PingOk K H ping_ok_sendable
    answer_keeps l _ H = tt

    later_keeps : (c l : ℕ) (m : Message) → E (at_later g c l m K) K
    later_keeps c l m = choice (λ hs. E hs K) (is_hello m.body) _ _ (λ z. (tt, tt)) (λ z. choice (λ hs. E hs K) (not (eqb m.sequence (due (counted l K)))) _ _ (λ y. (tt, tt))
        (λ y. choice (λ hs. E hs K) (not (is_small (view_of (counted l K ++ m ∷ [])))) _ _ (λ x. (tt, tt)) (λ x. (tt, answer_keeps l m.body (Counts c l m ∷ K)))))

    message_keeps : (c : ℕ) (r : Option ℕ) (m : Message) → E (at_message g c r m K) K
    message_keeps c None m = first_keeps c (identity c K) m
    message_keeps c (Some l) m = later_keeps c l m

    ready_keeps : (c : ℕ) (p : PeerId) (i : Option PeerId) → E (at_ready g c p i K) K
    ready_keeps c p None = both Keeps (taken_over g (other_with p c K) K) (Identifies c p ∷ []) K (taken_keeps (other_with p c K)) (tt, tt)
    ready_keeps c p (Some q) = tt

    said_keeps : (c : ℕ) (s : Said) → E (at_said g c s K) K
    said_keeps c (Arrived arrival.Greeted) = (tt, tt)
    said_keeps c (Arrived (arrival.Shaken p)) = ready_keeps c p (identity c K)
    said_keeps c (Arrived (arrival.Ping t)) = (tt, tt)
    said_keeps c (Arrived (arrival.Message m)) = message_keeps c (runs c K) m
    said_keeps c (Fault f) = run_and (runs c K) cause.Fault _ K (λ J. tt)

    place_keeps : (c : ℕ) (s : Said) → E (at_place g c s K) K
    place_keeps c s = choice (λ hs. E hs K) (is_live c K) _ _ (λ z. said_keeps c s) (λ z. tt)

    linked_keeps : (l : ℕ) (v : Option Life) → E (at_linked g l v K) K
    linked_keeps l None = tt
    linked_keeps l (Some v) = choice (λ hs. E hs K) (is_linked l K) _ _ (λ z. tt) (λ z. (tt, tt))

    end_keeps : (l : ℕ) (why : Option Cause) (H : List Mark) → E (end_by g l why) H
    end_keeps l None H = tt
    end_keeps l (Some why) H = (tt, tt)

    reply_keeps : (l : ℕ) (H : List Mark) (v : Option Life) → E (at_reply g l v H K) K
    reply_keeps l H None = tt
    reply_keeps l H (Some v) =
        let ts = newly_pinged l H K in
        choice (λ hs. E hs K) (is_linked l K) _ _ (λ z. both Keeps (map (λ t. PutsPong l t) (answered (unsent g l K) ts)) _ K (pongs_keep l (answered (unsent g l K) ts) K) (end_keeps l (cause_by_reply (slow_at (unsent g l K) ts) (reply_fault (replies l K))) _)) (λ z. tt)

    unlinked_keeps : (l : ℕ) (v : Option Life) → E (at_unlinked g l v) K
    unlinked_keeps l None = tt
    unlinked_keeps l (Some v) = (tt, tt)

    took_keeps : (l n : ℕ) (v : Option Life) → E (at_took g l n v K) K
    took_keeps l n None = tt
    took_keeps l n (Some v) = (tt, tt)

    tick_keeps : E (at_tick g K) K
    tick_keeps =
        let as_ = map (λ (v : Life). Ends v.link cause.Expired) (filter (is_silent g g.expired K) (lives K)) in
        let bs = probe g (filter (is_evasive g K) (lives K)) K in
        let cs = map (λ c. Closes c close.Timeout) (filter (is_stale g K) (open_ones K)) in
        both Keeps (as_ ++ bs ++ cs) _ K (both Keeps (as_ ++ bs) cs K (both Keeps as_ bs K (ends_keep cause.Expired (filter (is_silent g g.expired K) (lives K)) K) (probes_keep (filter (is_evasive g K) (lives K)) K (after as_ K))) (closes_keep close.Timeout (filter (is_stale g K) (open_ones K)) (after (as_ ++ bs) K))) (tt, tt)

    stop_keeps : E (at_stop g K) K
    stop_keeps =
        let as_ = map (λ (v : Life). Ends v.link cause.Stop) (lives K) in
        let bs = map (λ c. ClosesAtStop c) (open_ones K) in
        both Keeps (as_ ++ bs) _ K (both Keeps as_ bs K (ends_keep cause.Stop (lives K) K) (drops_keep (open_ones K) (after as_ K))) (tt, (tt, tt))

    joined_short : (group : List ℕ) (gs : List (List ℕ)) → AllByRecursion (λ x. length x ≤ GROUP_OCTETS) gs → has_group group gs ≡ true → length group ≤ GROUP_OCTETS
    joined_short group [] a h = absurd (true≢false (sym h))
    joined_short group (x ∷ gs) a h = by (joined_short group gs a.1) (bytes_eq x group) refl h
      where
        by : (has_group group gs ≡ true → length group ≤ GROUP_OCTETS) → (t : Bool) → bytes_eq x group ≡ t → (t || has_group group gs) ≡ true → length group ≤ GROUP_OCTETS
        by r true e z = subst (λ (y : List ℕ). length y ≤ GROUP_OCTETS) ((bytes_eq-Decides x group).0 e) a.0
        by r false e z = r z

    command_keeps : (c : Command) → E (at_command g c K) K
    command_keeps (command.Join group) = choice (λ hs. E hs K) (ltb GROUP_OCTETS (length group)) _ _ (λ z. (tt, tt)) (λ z. choice (λ hs. E hs K) (has_group group (groups K)) _ _ (λ y. (tt, tt)) (λ y. choice (λ hs. E hs K) (leb OWN_GROUPS (length (groups K))) _ _ (λ x. (tt, tt))
        (λ x. ((ltb-false _ _ z, leb-false _ _ x), pushes_keep (lives K) (body.Join group ((status K + 1) % 256)) K (Joins group ∷ K) (join_sendable group ((status K + 1) % 256) (ltb-false _ _ z))))))
    command_keeps (command.Leave group) = choice (λ hs. E hs K) (has_group group (groups K)) _ _ (λ z. (tt, pushes_keep (lives K) (body.Leave group ((status K + 1) % 256)) K (Leaves group ∷ K) (leave_sendable group ((status K + 1) % 256) (joined_short group (groups K) o.groups_fit z)))) (λ z. (tt, tt))
    command_keeps (command.Whisper p content) = by (life_of p K)
      where
        by : (v : Option Life) → E (at_whisper g p content v K) K
        by None = (tt, tt)
        by (Some v) = choice (λ hs. E hs K) (not (is_entered K v)) _ _ (λ z. (tt, tt)) (λ z. choice (λ hs. E hs K) (is_too_big g (body.Whisper content)) _ _ (λ y. (tt, tt)) (λ y. push_keeps v.link (body.Whisper content) K K (not_big (body.Whisper content) tt y)))
    command_keeps (command.Shout group content) = by (ltb GROUP_OCTETS (length group)) refl (is_too_big g (body.Shout group content)) refl
      where
        by : (s : Bool) → ltb GROUP_OCTETS (length group) ≡ s → (t : Bool) → is_too_big g (body.Shout group content) ≡ t
            → E (cond (s || t) (Refuses refuse.TooBig ∷ []) (push_all g (filter (is_member g group K) (lives K)) (body.Shout group content) K)) K
        by true e t f = (tt, tt)
        by false e true f = (tt, tt)
        by false e false f = pushes_keep (filter (is_member g group K) (lives K)) (body.Shout group content) K K (not_big (body.Shout group content) (let le = ltb-false _ _ e in omega (arith, le)) f)
    command_keeps (command.Bad n) = (tt, tt)
    command_keeps command.Quit = stop_keeps

    input_keeps : (i : Input) (H : List Mark) → is_piece i ≡ false → E (at_input g i H K) K
    input_keeps (input.Datagram from o) H n = datagram_keeps from (beacon_in o)
    input_keeps (input.Opened c) H n = opened_keeps c
    input_keeps (input.Piece c o) H n = absurd (true≢false n)
    input_keeps (input.Shut c) H n = shut_keeps c
    input_keeps (input.Linked l) H n = linked_keeps l (life l K)
    input_keeps (input.Reply l o) H n = reply_keeps l H (life l K)
    input_keeps (input.Unlinked l) H n = unlinked_keeps l (life l K)
    input_keeps (input.Took l n) H z = took_keeps l n (life l K)
    input_keeps input.Tick H n = tick_keeps
    input_keeps (input.Do c) H n = command_keeps c
    input_keeps input.End H n = stop_keeps

  -- ---- a journal

  -- so it is at each moment
  abbrev AreAllSent : List Mark → Type 0
  AreAllSent H = (later K : List Mark) → H ≡ later ++ K → AreSent K

  one_sent : (h : Mark) (H : List Mark) → Keeps h H → AreAllSent H → AreAllSent (h ∷ H)
  one_sent h H k o [] K e = subst AreSent e (kept h H k (o [] H refl))
  one_sent h H k o (x ∷ later) K e = o later K (let z : h ∷ H ≡ x ∷ (later ++ K) = e in cc)

  more_sent : (hs H : List Mark) → E hs H → AreAllSent H → AreAllSent (after hs H)
  more_sent [] H k o = o
  more_sent (h ∷ hs) H k o = more_sent hs (h ∷ H) k.1 (one_sent h H k.0 o)

  none_sent : AreAllSent []
  none_sent [] K e = subst AreSent e (record { groups_fit = tt; few_groups = omega arith; sendable = λ l. tt })
  none_sent (x ∷ later) K e = absurd cc

  pub are_sent : CanBe g → (journal : List Entry) → AreAllSent (chronicle g journal)
  are_sent can J = walk g J AreAllSent (λ H e o. one_sent (Comes e) H tt o)
      (λ earlier e later at n o. more_sent _ _ (input_keeps can (Comes e ∷ chronicle g earlier) (o [] (Comes e ∷ chronicle g earlier) refl) e.input (chronicle g earlier) n) o)
      (λ c one K a o. more_sent _ _ (place_keeps can K (o [] K refl) c one) o)
      none_sent

-- ---- the messages

pub each_readable : (n : ℕ) (bs : List Body) → AllByRecursion IsSendable bs → AllByRecursion IsReadable (numbered_from n bs)
each_readable n [] a = tt
each_readable n (b ∷ bs) a = (record { means = record { spelled = refl; fits = a.0.fits; sequence_fits = omega arith }; within = a.0.within (n % 2 ^ 16) }, each_readable (n + 1) bs a.1)
