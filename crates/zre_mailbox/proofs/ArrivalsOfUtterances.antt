-- What arrives of what a node says, in whichever order its greeting, its READY and its messages come.
use Rattle.std.proofs.Common.{◌≡◌, ◌≢◌, ◌⊎◌, ℕ, zero, suc, ◌+◌, ◌≤◌, ◌<◌, Bool, true, false, cond, not, leb, ltb, List, [], ◌∷◌, ◌++◌, length, map, take, drop, Option, Some, None, refl, sym, ap, ◌∙◌, subst, arith, inl, inr, append_assoc, append-nil, option_map, is_some, true≢false}
use Rattle.std.specs.Prelude.{option_to_list, codes}
use Rattle.std.specs.Result.{result_ok}
use Rattle.std.specs.List.{filter_map, cons_option, AllByRecursion}
use Rattle.std.specs.Str.{bytes_eq}
use Rattle.std.specs.Option.{option_or}
use Rattle.std.specs.Int.{w64, to_be_bytes}
use Rattle.std.proofs.lemmas.Bool.{le-ltb, lt-ltb, le-leb, cases_Bool}
use Rattle.std.proofs.lemmas.Slice.Eq.{bytes_eq-Decides}
use Rattle.zre_values.specs.declared.limits.TheConstants.{COMMAND_OCTETS, MESSAGE_FRAMES}
use Rattle.zre_values.specs.declared.peer_id.PeerId.{PeerId}
use Rattle.zre_values.specs.Framing.{frame, frames}
use Rattle.zre_zmtp.specs.declared.expected.Expected.{Expected}
use Rattle.zre_zmtp.specs.declared.expected.Expected.TheVariants as expect
use Rattle.zre_zmtp.specs.declared.fault.ZmtpFault.{ZmtpFault}
use Rattle.zre_zmtp.specs.declared.fault.ZmtpWhy.{ZmtpWhy}
use Rattle.zre_zmtp.specs.declared.fault.ZmtpWhy.TheVariants as why
use Rattle.zre_zmtp.specs.declared.header.Header.{Header}
use Rattle.zre_zmtp.specs.declared.item.Item.{Item}
use Rattle.zre_zmtp.specs.declared.want.Want.{Want}
use Rattle.zre_zmtp.specs.declared.want.Want.TheVariants.{Dealer}
use Rattle.zre_zmtp.specs.declared.writing.SocketType.TheVariants as socket
use Rattle.zre_zmtp.specs.Laws.{AwaitsMessage, IsWithinLimits, ReadsMessage, ReadsHandshake, handshake, greeting_item, ready_item}
use Rattle.zre_zmtp.specs.Frame.{flags, has_header, size, is_whole, body}
use Rattle.zre_zmtp.specs.Ping.{context_of}
use Rattle.zre_zmtp.specs.Ready.{has_name, name, rest, properties, properties_within}
use Rattle.zre_zmtp.specs.Run.{Found, after, run_all}
use Rattle.zre_zmtp.specs.Shown.{Advances, header_fault, frame_item, frame_after}
use Rattle.zre_zmtp.specs.Stream.{Before, Whole, Parts, before, expected, split, cut, items, items_of, item, fault, fault_of, frame_fault, frame_why, greeting_fault, part_len, once, flags_fault, size_fault, body_fault, command_fault, is_error, is_ready, awaits_ready, has_socket, has_identity, is_value, is_other, opened_by, said, start_of}
use Rattle.zre_zmtp.specs.Written.{own_greeting, ready_body, ready_frame}
use Rattle.zre_zmtp.proofs.OctetsCutIntoParts.{cut-none, split-more}
use Rattle.zre_zmtp.proofs.WholeFrames.{part-fault}
use Rattle.zre_zmtp.proofs.ReadersFollowStreams.{Follows, follows, fault-follows, is_over}
use Rattle.zre_zmtp.proofs.FrameFaults.{is_framed, IsFramed, fault-frame}
use Rattle.zre_zmtp.proofs.Handshakes.{IsReadyBody, handshake_is_read}
use Rattle.zre_zmtp.proofs.MessagesAwaited.{message_is_read}
use Rattle.zre_zmtp.proofs.TurnsOfReaders.{turn_whole, no_octets}
use Rattle.zre_msg.specs.declared.message.Message.{Message}
use Rattle.zre_msg.proofs.MeansIsRead.{read-means}
use Rattle.zre_msg.specs.Spelling.{spell, octets}
use Rattle.zre_mailbox.specs.declared.arrival.Arrival.{Arrival}
use Rattle.zre_mailbox.specs.declared.arrival.Arrival.TheVariants as arrival
use Rattle.zre_mailbox.specs.Talk.{arrivals, arrivals_in, peer_of}
use Rattle.zre_mailbox.specs.Utterances.{Utterance, Greeting, Ready, Says, stream, messages, IsReadable, IsHearable, up_to_greeting, heard_after, heard}
use Rattle.zre_mailbox.proofs.TalkGrows.{arrivals_in-append}

-- ---- a part with a fault

-- Where the octets after o begin a part with a fault, nothing arrives with them, nor after them.
faulty : (own : PeerId) (o p : List ℕ) (x : ZmtpFault) → fault_of (Dealer own) (before Whole (split (Dealer own) Whole o).0) ((split (Dealer own) Whole o).1 ++ p) ≡ Some x
    → (more : List ℕ) → arrivals own ((o ++ p) ++ more) ≡ arrivals own o
faulty own o p x e more =
    let want = Dealer own in
    let s = split want Whole o in
    let is : split want Whole (o ++ p) ≡ (s.0, s.1 ++ p) = split-more want Whole o p ∙ cut-none want Whole (length (s.1 ++ p)) s.0 (s.1 ++ p) (part-fault want (before Whole s.0) (s.1 ++ p) x e) in
    let bad : fault want Whole (o ++ p) ≡ Some x = ap (λ (c : Parts × List ℕ). fault_of want (before Whole c.0) c.1) is ∙ e in
    ap arrivals_in ((is_over want Whole (o ++ p) x bad).items more ∙ ap (λ (c : Parts × List ℕ). items_of Whole c.0) is)

abbrev IsFaulty : Want → Before → List ℕ → Type 0
IsFaulty want b o = (x : ZmtpFault) × (fault_of want b o ≡ Some x)

-- the first test of a frame fails
first_fails : (t : Bool) (r : ZmtpWhy) (others : Option ZmtpWhy) → t ≡ true → option_or (once t (Some r)) others ≡ Some r
first_fails true r others e = refl
first_fails false r others e = absurd (true≢false (sym e))

some_octets : (f : ℕ) (o : List ℕ) → leb 1 (length (f ∷ o)) ≡ true
some_octets f o = le-leb 1 (length (f ∷ o)) (omega arith)

-- with its flags octet
flags_fail : (want : Want) (b : Before) (f : ℕ) (o : List ℕ) (r : ZmtpWhy) → flags_fault b f ≡ Some r → b.expected ≢ expect.Greeting → IsFaulty want b (f ∷ o)
unfolding frame_why
flags_fail want b f o r e frame = (
  record { why = r; place = b.place },
  fault-frame b.expected want b (f ∷ o) frame
      ∙ ap (λ y. option_map (λ reason. record { why = reason; place = b.place })
      (option_or (once (leb 1 (length (f ∷ o))) y) (option_or (once (has_header (f ∷ o)) (size_fault b (flags (f ∷ o)) (size (f ∷ o)))) (once (is_whole (f ∷ o)) (body_fault want b (flags (f ∷ o)) (body (f ∷ o))))))) e
      ∙ ap (λ y. option_map (λ reason. record { why = reason; place = b.place }) y) (first_fails (leb 1 (length (f ∷ o))) r _ (some_octets f o)),
)

-- a greeting where a frame is expected
no_frame : (want : Want) (b : Before) (o : List ℕ) → b.expected ≢ expect.Greeting → IsFaulty want b (255 ∷ o)
no_frame want b o e = flags_fail want b 255 o why.Flags refl e

-- a message where READY is
no_ready : (want : Want) (b : Before) (f : ℕ) (o : List ℕ) → b.expected ≡ expect.Ready → f < 4 → IsFaulty want b (f ∷ o)
no_ready want b f o e low = flags_fail want b f o why.Order (by f low) (λ z. let w : expect.Ready ≡ expect.Greeting = sym e ∙ z in cc)
  where
    by : (f : ℕ) → f < 4 → flags_fault b f ≡ Some why.Order
    by zero l = ap (λ x. cond (awaits_ready x) (Some why.Order) (cond (leb MESSAGE_FRAMES (length b.opened)) (Some why.TooManyFrames) None)) e
    by (suc zero) l = ap (λ x. cond (awaits_ready x) (Some why.Order) (cond (leb MESSAGE_FRAMES (length b.opened)) (Some why.TooManyFrames) None)) e
    by (suc (suc zero)) l = ap (λ x. cond (awaits_ready x) (Some why.Order) (cond (leb MESSAGE_FRAMES (length b.opened)) (Some why.TooManyFrames) None)) e
    by (suc (suc (suc zero))) l = ap (λ x. cond (awaits_ready x) (Some why.Order) (cond (leb MESSAGE_FRAMES (length b.opened)) (Some why.TooManyFrames) None)) e
    by (suc (suc (suc (suc n)))) l = absurd (omega (arith, l))

-- a frame where a greeting is
no_signature : (want : Want) (o : List ℕ) (f : ℕ) → f < 5 → IsFaulty want (before Whole []) (f ∷ o)
unfolding greeting_fault
no_signature want o zero e = (record { why = why.Signature; place = 0 }, refl)
no_signature want o (suc zero) e = (record { why = why.Signature; place = 0 }, refl)
no_signature want o (suc (suc zero)) e = (record { why = why.Signature; place = 0 }, refl)
no_signature want o (suc (suc (suc zero))) e = (record { why = why.Signature; place = 0 }, refl)
no_signature want o (suc (suc (suc (suc zero)))) e = (record { why = why.Signature; place = 0 }, refl)
no_signature want o (suc (suc (suc (suc (suc n))))) e = absurd (omega (arith, e))

-- ---- how a message begins

one_of : (Q : List ℕ → Type 0) (t : Bool) (short long : List ℕ) → Q short → Q long → Q (cond t short long)
one_of Q true short long a b = a
one_of Q false short long a b = b

begins_low : (Q : List ℕ → Type 0) → ((f : ℕ) (o : List ℕ) → f < 4 → Q (f ∷ o)) → (m : List (List ℕ)) → 1 ≤ length m → Q (frames m)
begins_low Q q [] some = absurd (omega (arith, some))
begins_low Q q (x ∷ []) some = one_of Q (ltb (length x) 256) _ _ (q 0 (length x ∷ x) (omega arith)) (q 2 (to_be_bytes w64 (length x) ++ x) (omega arith))
begins_low Q q (x ∷ y ∷ more) some =
    one_of (λ f. Q (f ++ frames (y ∷ more))) (ltb (length x) 256) _ _ (q 1 ((length x ∷ x) ++ frames (y ∷ more)) (omega arith)) (q 3 ((to_be_bytes w64 (length x) ++ x) ++ frames (y ∷ more)) (omega arith))

-- ---- READY in traffic

-- a command that is no PING
record IsOther (o : List ℕ) : Type 0 where
  named : has_name o ≡ true
  no_ping : context_of (name o) (rest o) ≡ None

ready_other : (l : List ℕ) → length l ≡ 16 → IsOther (ready_body socket.Dealer (Some (record { 0 = l })))
ready_other (x0 ∷ x1 ∷ x2 ∷ x3 ∷ x4 ∷ x5 ∷ x6 ∷ x7 ∷ x8 ∷ x9 ∷ x10 ∷ x11 ∷ x12 ∷ x13 ∷ x14 ∷ x15 ∷ []) e = record { named = refl; no_ping = refl }
ready_other l e = absurd (omega (arith, e))

ready_short : (l : List ℕ) → length l ≡ 16 → length (ready_body socket.Dealer (Some (record { 0 = l }))) < 256
ready_short l e = omega (arith, e)

ready_is : (id : PeerId) → length id.0 ≡ 16 → let o = ready_body socket.Dealer (Some id) in ready_frame socket.Dealer (Some id) ≡ 4 ∷ length o ∷ o
ready_is id e = let lt = ready_short id.0 e in ap (λ t. cond t (4 ∷ length (ready_body socket.Dealer (Some id)) ∷ ready_body socket.Dealer (Some id)) (6 ∷ (to_be_bytes w64 (length (ready_body socket.Dealer (Some id))) ++ ready_body socket.Dealer (Some id)))) (lt-ltb (length (ready_body socket.Dealer (Some id))) 256 lt)

short_header : (b : Before) (n : ℕ) → n < 256 → header_fault b (4 ∷ n ∷ []) ≡ None
short_header b n lt = let le : ltb COMMAND_OCTETS n ≡ false = le-ltb COMMAND_OCTETS n (omega (arith, lt)) in ap (λ t. cond t (Some why.TooLarge) None) le

-- it says nothing
unsaid : (b : Before) (n len : ℕ) (o : List ℕ) → b.expected ≡ expect.Traffic → context_of (name o) (rest o) ≡ None → arrivals_in (option_to_list (frame_item b (record { flags = 4; size = n }) o len)) ≡ []
unsaid b n len o e none =
    ap (λ x. arrivals_in (option_to_list (option_map (λ says. record { start = start_of b.expected b 4; end = b.place + len; what = says }) (said x b.opened 4 n o)))) e
    ∙ ap (λ c. cons_option (option_map (λ t. arrival.Ping t) c) []) none

commands_pass : (want : Want) (e : Expected) (o : List ℕ) → e ≡ expect.Traffic → has_name o ≡ true → command_fault want e o ≡ None
commands_pass want e o t n = ap (λ x. command_fault want x o) t ∙ ap (λ x. cond (not x) (Some why.CommandName) None) n

pub record Skips (own : PeerId) (o p : List ℕ) : Type 0 where
  pub same : arrivals own (o ++ p) ≡ arrivals own o
  pub awaits : AwaitsMessage (Dealer own) Whole (o ++ p)

pub ready_skipped : (own : PeerId) (o : List ℕ) (id : PeerId) → length id.0 ≡ 16 → AwaitsMessage (Dealer own) Whole o → Skips own o (ready_frame socket.Dealer (Some id))
ready_skipped own o id sixteen a = record { same = same; awaits = awaits }
  where
    want : Want
    want = Dealer own

    b : Before
    b = before Whole (split want Whole o).0

    x : List ℕ
    x = ready_body socket.Dealer (Some id)

    head : List ℕ
    head = 4 ∷ length x ∷ []

    p : List ℕ
    p = ready_frame socket.Dealer (Some id)

    is : IsOther x
    is = ready_other id.0 sixteen

    lt : length x < 256
    lt = ready_short id.0 sixteen

    said_is : Header
    said_is = record { flags = 4; size = length x }

    framed : IsFramed want b said_is x (head ++ x) (2 + length x)
    framed = is_framed want b said_is head x (λ e. let w : expect.Traffic ≡ expect.Greeting = sym a.in_traffic ∙ e in cc) refl (omega arith) refl (short_header b (length x) lt)

    turn : Advances want b (head ++ x) [] (option_to_list (item b (head ++ x))) (after b (head ++ x)) []
    turn = turn_whole want b (head ++ x) [] (option_to_list (item b (head ++ x))) (after b (head ++ x)) []
        (framed.fault ∙ ap (λ y. option_map (λ reason. record { why = reason; place = b.place }) y) (commands_pass want b.expected x a.in_traffic is.named)) framed.whole refl refl refl

    f : Found
    f = run_all want b (head ++ x)

    here : run_all want b ((split want Whole o).1 ++ p) ≡ f
    here = ap (λ (l : List ℕ). run_all want b (l ++ p)) a.at_rest.nothing_left ∙ ap (λ (l : List ℕ). run_all want b l) (ready_is id sixteen)

    w : Follows want Whole o p f
    w = subst (λ (y : Found). Follows want Whole o p y) here (follows want Whole o p)

    same : arrivals own (o ++ p) ≡ arrivals own o
    same = ap arrivals_in w.all ∙ arrivals_in-append (items want Whole o) f.given
        ∙ ap (λ as_. arrivals own o ++ as_) (ap arrivals_in (sym turn.reads.given ∙ ap option_to_list framed.item) ∙ unsaid b (length x) (2 + length x) x a.in_traffic is.no_ping)
        ∙ append-nil (arrivals own o)

    now : f.before ≡ frame_after b said_is x (2 + length x)
    now = sym turn.reads.before ∙ framed.after

    rest_is : f.left ≡ []
    rest_is = sym turn.reads.left

    awaits : AwaitsMessage want Whole (o ++ p)
    awaits = record {
      at_rest = record {
        nothing_left = sym w.left ∙ rest_is;
        nothing_open = ap (λ (y : Before). y.opened) (sym w.before ∙ now) ∙ ap (λ e. opened_by e b.opened 4 x) a.in_traffic ∙ a.at_rest.nothing_open;
      };
      faultless = sym (fault-follows want Whole o p f w) ∙ ap (λ l. fault_of want f.before l) rest_is ∙ no_octets want f.before.expected f.before;
      in_traffic = ap (λ (y : Before). y.expected) (sym w.before ∙ now);
    }

identity_fails : (want : Want) (o : List ℕ) → has_name o ≡ true → is_error o ≡ false → is_ready o ≡ true → is_some (properties (rest o)) ≡ true → has_socket want o ≡ true → has_identity want o ≡ false
    → command_fault want expect.Ready o ≡ Some why.Identity
identity_fails want o named no_error ready listed socket identity = rw (named, no_error, ready, listed, socket, identity) refl

module _ (own id : PeerId) (sixteen : length id.0 ≡ 16) where
  abbrev want : Want
  want = Dealer own

  abbrev ready : List ℕ
  ready = ready_frame socket.Dealer (Some id)

  -- ---- in traffic

  abbrev arrive : List Message → List Arrival
  arrive ms = map (λ m. arrival.Message m) ms

  message_heard : (o : List ℕ) (m : Message) → AwaitsMessage want Whole o → IsReadable m → (arrivals own (o ++ octets m) ≡ arrivals own o ++ arrival.Message m ∷ []) × AwaitsMessage want Whole (o ++ octets m)
  message_heard o m a h =
      let r = message_is_read want Whole o (spell m) a h.within in (
        ap arrivals_in r.read ∙ arrivals_in-append (items want Whole o) _ ∙ ap (λ x. arrivals own o ++ cons_option (option_map (λ n. arrival.Message n) (result_ok x)) []) (read-means (spell m) m h.means),
        r.awaits,
      )

  traffic_heard : (us : List Utterance) → AllByRecursion IsHearable us → (o : List ℕ) → AwaitsMessage want Whole o → arrivals own (o ++ stream id us) ≡ arrivals own o ++ arrive (messages (up_to_greeting us))
  traffic_heard [] h o a = ap (arrivals own) (append-nil o) ∙ sym (append-nil (arrivals own o))
  traffic_heard (Greeting ∷ us) h o a =
      let b = before Whole (split want Whole o).0 in
      let bad = no_frame want b (drop 1 own_greeting) (λ e. let w : expect.Traffic ≡ expect.Greeting = sym a.in_traffic ∙ e in cc) in
      let f = faulty own o own_greeting bad.0 (ap (λ (l : List ℕ). fault_of want b (l ++ own_greeting)) a.at_rest.nothing_left ∙ bad.1) (stream id us) in
      ap (arrivals own) (sym (append_assoc o own_greeting (stream id us))) ∙ f ∙ sym (append-nil (arrivals own o))
  traffic_heard (Ready ∷ us) h o a =
      let s = ready_skipped own o id sixteen a in
      ap (arrivals own) (sym (append_assoc o ready (stream id us))) ∙ traffic_heard us h.1 (o ++ ready) s.awaits ∙ ap (λ as_. as_ ++ arrive (messages (up_to_greeting us))) s.same
  traffic_heard (Says m ∷ us) h o a =
      let s = message_heard o m a h.0 in
      ap (arrivals own) (sym (append_assoc o (octets m) (stream id us))) ∙ traffic_heard us h.1 (o ++ octets m) s.1 ∙ ap (λ as_. as_ ++ arrive (messages (up_to_greeting us))) s.0
      ∙ append_assoc (arrivals own o) (arrival.Message m ∷ []) (arrive (messages (up_to_greeting us)))

  -- ---- after the greeting

  split_greeting : split want Whole own_greeting ≡ (own_greeting ∷ [], [])
  unfolding cut part_len greeting_fault frame_why
  split_greeting = refl

  greeting_heard : arrivals own own_greeting ≡ arrival.Greeted ∷ []
  unfolding item
  greeting_heard = ap (λ (c : Parts × List ℕ). arrivals_in (items_of Whole c.0)) split_greeting

  abbrev greeted : Before
  greeted = before Whole (own_greeting ∷ [])

  -- a part with a fault after it
  alone : (p : List ℕ) (us : List Utterance) → IsFaulty want greeted p → arrivals own (own_greeting ++ (p ++ stream id us)) ≡ arrival.Greeted ∷ []
  alone p us bad =
      ap (arrivals own) (sym (append_assoc own_greeting p (stream id us)))
      ∙ faulty own own_greeting p bad.0 (ap (λ (c : Parts × List ℕ). fault_of want (before Whole c.0) (c.1 ++ p)) split_greeting ∙ bad.1) (stream id us)
      ∙ greeting_heard

  ready_body_is : IsReadyBody socket.Dealer (Some (1 ∷ id.0)) (ready_body socket.Dealer (Some id))
  unfolding properties_within
  ready_body_is = by id.0 sixteen
    where
      by : (l : List ℕ) → length l ≡ 16 → IsReadyBody socket.Dealer (Some (1 ∷ l)) (ready_body socket.Dealer (Some (record { 0 = l })))
      by (x0 ∷ x1 ∷ x2 ∷ x3 ∷ x4 ∷ x5 ∷ x6 ∷ x7 ∷ x8 ∷ x9 ∷ x10 ∷ x11 ∷ x12 ∷ x13 ∷ x14 ∷ x15 ∷ []) e = record { named = refl; no_error = refl; ready = refl; listed = refl; socket = refl; identity = refl }
      by l e = absurd (omega (arith, e))

  -- its own READY
  own_refused : bytes_eq id.0 own.0 ≡ true → IsFaulty want greeted ready
  own_refused same =
      let x = ready_body socket.Dealer (Some id) in
      let is = ready_body_is in
      let lt = ready_short id.0 sixteen in
      let head : List ℕ = 4 ∷ length x ∷ [] in
      let said_is : Header = record { flags = 4; size = length x } in
      let framed : IsFramed want greeted said_is x (head ++ x) (2 + length x) = is_framed want greeted said_is head x (λ e. absurd cc) refl (omega arith) refl (short_header greeted (length x) lt) in
      let socket : has_socket want x ≡ true = ap (λ v. is_value v (codes "DEALER")) is.socket in
      let identity : has_identity want x ≡ false = ap (is_other own.0) is.identity ∙ other same in
      let bad : body_fault want greeted 4 x ≡ Some why.Identity = identity_fails want x is.named is.no_error is.ready is.listed socket identity in
      (record { why = why.Identity; place = greeted.place }, ap (λ (l : List ℕ). fault_of want greeted l) (ready_is id sixteen) ∙ framed.fault ∙ ap (λ y. option_map (λ reason. record { why = reason; place = greeted.place }) y) bad)
    where
      other : bytes_eq id.0 own.0 ≡ true → is_other own.0 (Some (1 ∷ id.0)) ≡ false
      other same = rw (sixteen, same) refl

  handshake_heard : id.0 ≢ own.0 → (arrivals own (own_greeting ++ ready) ≡ arrival.Greeted ∷ arrival.Shaken id ∷ []) × AwaitsMessage want Whole (own_greeting ++ ready)
  handshake_heard other =
      let r = handshake_is_read want socket.Dealer (Some id) sixteen (refl, other) in
      (ap arrivals_in r.read ∙ ap (λ p. arrival.Greeted ∷ cons_option (option_map (λ q. arrival.Shaken q) p) []) its_peer, r.awaits)
    where
      its_peer : peer_of (1 ∷ id.0) ≡ Some id
      its_peer = rw sixteen refl

  greeted_heard : (us : List Utterance) → AllByRecursion IsHearable us → arrivals own (own_greeting ++ stream id us) ≡ arrival.Greeted ∷ heard_after own id us
  greeted_heard [] h = ap (arrivals own) (append-nil own_greeting) ∙ greeting_heard
  greeted_heard (Greeting ∷ us) h = alone own_greeting us (no_frame want greeted (drop 1 own_greeting) (λ e. absurd cc))
  greeted_heard (Says m ∷ us) h = alone (octets m) us (begins_low (IsFaulty want greeted) (λ f o low. no_ready want greeted f o refl low) (spell m) (omega arith))
  greeted_heard (Ready ∷ us) h = by (bytes_eq id.0 own.0) refl
    where
      by : (t : Bool) → bytes_eq id.0 own.0 ≡ t → arrivals own (own_greeting ++ (ready ++ stream id us)) ≡ arrival.Greeted ∷ cond t [] (arrival.Shaken id ∷ arrive (messages (up_to_greeting us)))
      by true e = alone ready us (own_refused e)
      by false e =
          let s = handshake_heard (λ z. true≢false (sym ((bytes_eq-Decides id.0 own.0).1 z) ∙ e)) in
          ap (arrivals own) (sym (append_assoc own_greeting ready (stream id us))) ∙ traffic_heard us h.1 (own_greeting ++ ready) s.1 ∙ ap (λ as_. as_ ++ arrive (messages (up_to_greeting us))) s.0

  -- ---- from the beginning

  -- a part that is no greeting
  none_heard : (p : List ℕ) (us : List Utterance) → IsFaulty want (before Whole []) p → arrivals own (p ++ stream id us) ≡ []
  unfolding cut
  none_heard p us bad = faulty own [] p bad.0 bad.1 (stream id us)

  pub are_heard : (us : List Utterance) → AllByRecursion IsHearable us → arrivals own (stream id us) ≡ heard own id us
  unfolding cut
  are_heard [] h = refl
  are_heard (Greeting ∷ us) h = greeted_heard us h.1
  are_heard (Ready ∷ us) h = none_heard ready us (subst (IsFaulty want (before Whole [])) (sym (ready_is id sixteen)) (no_signature want (length (ready_body socket.Dealer (Some id)) ∷ ready_body socket.Dealer (Some id)) 4 (omega arith)))
  are_heard (Says m ∷ us) h = none_heard (octets m) us (begins_low (IsFaulty want (before Whole [])) (λ f o low. no_signature want o f (omega (arith, low))) (spell m) (omega arith))
