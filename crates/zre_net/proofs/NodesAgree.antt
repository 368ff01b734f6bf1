-- Nodes agree: what one has counted of another is the beginning of what that one queued, and what it shows is what that one was.
use Rattle.std.proofs.Common.{◌≡◌, ℕ, zero, suc, ◌-◌, ◌≤◌, Bool, true, false, cond, eqb, List, [], ◌∷◌, ◌++◌, length, map, take, Option, Some, None, is_some, refl, sym, ap, ◌∙◌, subst, arith, eqb-true, true≢false, length-append}
use Rattle.std.specs.Prelude.{slice_get, bytes_eq}
use Rattle.std.specs.Option.{option_map_or}
use Rattle.std.specs.List.{filter_map, cons_option, AllByRecursion}
use Rattle.zre_values.specs.declared.peer_id.PeerId.{PeerId}
use Rattle.zre_outside.specs.declared.entry.Entry.{Entry}
use Rattle.zre_zmtp.specs.declared.fault.ZmtpFault.{ZmtpFault}
use Rattle.zre_msg.specs.declared.message.Message.{Message}
use Rattle.zre_msg.specs.Spelling.{octets}
use Rattle.zre_mailbox.specs.declared.arrival.Arrival.{Arrival}
use Rattle.zre_mailbox.specs.declared.arrival.Arrival.TheVariants as arrival
use Rattle.zre_mailbox.specs.Conn.{identity_in}
use Rattle.zre_mailbox.specs.Talk.{Arrived, arrivals, fault_in, fault_said, talk}
use Rattle.zre_mailbox.specs.Utterances.{Utterance, Greeting, Ready, Says, stream, said_by, messages, IsReadable, IsHearable, up_to_greeting, heard as heard_of}
use Rattle.zre_mailbox.proofs.TalkGrows.{goes, nothing_said}
use Rattle.zre_mailbox.proofs.ConnAfterOctets.{introduced_stays}
use Rattle.zre_mailbox.proofs.ArrivalsOfUtterances.{are_heard}
use Rattle.zre_peer.specs.Ledger.{IsNumbered, IsPicked, ArePicked}
use Rattle.zre_peer.specs.Runs.{told}
use Rattle.zre_peer.specs.Views.{view_of}
use Rattle.zre_values.specs.declared.settings.Settings.{Settings as Config}
use Rattle.zre_journal.specs.Chronicle.{Mark}
use Rattle.zre_journal.specs.Connections.{open_ones, started, has_ended, runs}
use Rattle.zre_journal.specs.Events.{events}
use Rattle.zre_journal.specs.Heard.{bytes, was_opened}
use Rattle.zre_journal.specs.Hearing.{heard, heard_on}
use Rattle.zre_journal.specs.Laws.{message_on, counted_on}
use Rattle.zre_journal.specs.Ledger.{Ledger, IsDrawn, KeepsLedger}
use Rattle.zre_journal.specs.Peers.{Life, life, runner, counted, message_at}
use Rattle.zre_journal.specs.Proper.{IsProper}
use Rattle.zre_journal.proofs.IdentitiesOfReady.{is_introduced}
use Rattle.zre_journal.proofs.ChroniclesKeepJournals.{keeps}
use Rattle.zre_journal.proofs.LawsOfChronicles.{IsTold, none_told, told_more}
use Rattle.zre_journal.proofs.MessagesOfLedgers.{front_picked}
use Rattle.zre_journal.proofs.NumberedLists.{any_has}
use Rattle.zre_journal.proofs.LaterMoments.{at_moments, each_grows, still_opened, still_identified}
use Rattle.zre_journal.proofs.EventsFollowMessages.{ArePassed, passed_more, none_passed}
use Rattle.zre_journal.proofs.ProperPeers.{has_started, run_is}
use Rattle.zre_journal.proofs.SaidOnLinks.{spoke_truly, are_readable}
use Rattle.zre_journal.proofs.NearMessages.{keeps_ledgers}
use Rattle.zre_net.specs.declared.moves.Part.{Part}
use Rattle.zre_net.specs.declared.moves.Part.TheVariants as part
use Rattle.zre_net.specs.Agreement.{number_in, carried, ledger_of, IsWithinWindow, IsShown, Agrees, streamed}
use Rattle.zre_net.specs.Carried.{spelling, pending}
use Rattle.zre_net.specs.Grammar.{can_carry}
use Rattle.zre_net.specs.History.{Incarnation, Happening, IsKnown, journal, chronicle_of}
use Rattle.zre_net.specs.Lists.{nth}
use Rattle.zre_net.specs.Numbers.{Route, CarriedConn, conns, queued_on}
use Rattle.zre_net.proofs.CarriedOctets.{Carries}
use Rattle.zre_net.proofs.JournalsOfIncarnations.{same_who}
use Rattle.zre_net.proofs.ListsCountedFromOne.{some_one, all_at}

-- ---- lists

take_front : {A : Type 0} (n : ℕ) (xs ys : List A) (more : List A) → xs ++ more ≡ take n ys → xs ≡ take (length xs) ys
take_front n [] ys more e = refl
take_front zero (x ∷ xs) ys more e = absurd (let z : x ∷ (xs ++ more) ≡ [] = e in cc)
take_front (suc n) (x ∷ xs) [] more e = absurd (let z : x ∷ (xs ++ more) ≡ [] = e in cc)
take_front (suc n) (x ∷ xs) (y ∷ ys) more e =
    let z : x ∷ (xs ++ more) ≡ y ∷ take n ys = e in
    let head : x ≡ y = cc in
    let tail : xs ++ more ≡ take n ys = cc in
    ap (λ w. w ∷ xs) head ∙ ap (λ ws. y ∷ ws) (take_front n xs ys more tail)

take_short : {A : Type 0} (n : ℕ) (xs : List A) → length (take n xs) ≤ length xs
take_short zero xs = omega arith
take_short (suc n) [] = omega arith
take_short (suc n) (x ∷ xs) = let r = take_short n xs in omega (arith, r)

-- ---- the messages that are heard

abbrev arrived_message : Arrival → Option Message
arrived_message (arrival.Message m) = Some m
arrived_message arrival.Greeted = None
arrived_message (arrival.Shaken p) = None
arrived_message (arrival.Ping t) = None

abbrev arrived : List Arrival → List Message
arrived came = filter_map arrived_message came

none_in_fault : (f : Option ZmtpFault) → heard (fault_said f) ≡ []
none_in_fault None = refl
none_in_fault (Some f) = refl

heard_arrived : (f : Option ZmtpFault) (came : List Arrival) → heard (map (λ a. Arrived a) came ++ fault_said f) ≡ arrived came
heard_arrived f [] = none_in_fault f
heard_arrived f (arrival.Greeted ∷ came) = heard_arrived f came
heard_arrived f (arrival.Shaken p ∷ came) = heard_arrived f came
heard_arrived f (arrival.Ping t ∷ came) = heard_arrived f came
heard_arrived f (arrival.Message m ∷ came) = ap (λ ms. m ∷ ms) (heard_arrived f came)

arrived_both : (as_ bs : List Arrival) → arrived (as_ ++ bs) ≡ arrived as_ ++ arrived bs
arrived_both [] bs = refl
arrived_both (arrival.Greeted ∷ as_) bs = arrived_both as_ bs
arrived_both (arrival.Shaken p ∷ as_) bs = arrived_both as_ bs
arrived_both (arrival.Ping t ∷ as_) bs = arrived_both as_ bs
arrived_both (arrival.Message m ∷ as_) bs = ap (λ ms. m ∷ ms) (arrived_both as_ bs)

arrived_all : (ms : List Message) → arrived (map (λ m. arrival.Message m) ms) ≡ ms
arrived_all [] = refl
arrived_all (m ∷ ms) = ap (λ ns. m ∷ ns) (arrived_all ms)

abbrev IsFront : {A : Type 0} → List A → List A → Type 0
IsFront {A = A} xs ys = (rest : List A) × (ys ≡ xs ++ rest)

messages_front : (us : List Utterance) → IsFront (messages (up_to_greeting us)) (messages us)
messages_front [] = ([], refl)
messages_front (Greeting ∷ us) = (messages us, refl)
messages_front (Ready ∷ us) = messages_front us
messages_front (Says m ∷ us) = let r = messages_front us in (r.0, ap (λ ms. m ∷ ms) r.1)

-- the messages that arrive are the first of those said
said_front : (own id : PeerId) (us : List Utterance) → IsFront (arrived (heard_of own id us)) (messages us)
said_front own id [] = ([], refl)
said_front own id (Ready ∷ us) = (messages us, refl)
said_front own id (Says m ∷ us) = (m ∷ messages us, refl)
said_front own id (Greeting ∷ []) = ([], refl)
said_front own id (Greeting ∷ Greeting ∷ us) = (messages us, refl)
said_front own id (Greeting ∷ Says m ∷ us) = (m ∷ messages us, refl)
said_front own id (Greeting ∷ Ready ∷ us) = by (bytes_eq id.0 own.0)
  where
    by : (t : Bool) → IsFront (arrived (cond t [] (arrival.Shaken id ∷ map (λ m. arrival.Message m) (messages (up_to_greeting us))))) (messages us)
    by true = (messages us, refl)
    by false = let r = messages_front us in (r.0, r.1 ∙ ap (λ ms. ms ++ r.0) (sym (arrived_all (messages (up_to_greeting us)))))

-- and who is introduced is who says it
said_identity : (own id p : PeerId) (us : List Utterance) → identity_in (heard_of own id us) ≡ Some p → p ≡ id
said_identity own id p [] e = absurd cc
said_identity own id p (Ready ∷ us) e = absurd cc
said_identity own id p (Says m ∷ us) e = absurd cc
said_identity own id p (Greeting ∷ []) e = absurd cc
said_identity own id p (Greeting ∷ Greeting ∷ us) e = absurd cc
said_identity own id p (Greeting ∷ Says m ∷ us) e = absurd cc
said_identity own id p (Greeting ∷ Ready ∷ us) e = by (bytes_eq id.0 own.0) e
  where
    by : (t : Bool) → identity_in (arrival.Greeted ∷ cond t [] (arrival.Shaken id ∷ map (λ m. arrival.Message m) (messages (up_to_greeting us)))) ≡ Some p → p ≡ id
    by true z = absurd (let w : None ≡ Some p = z in cc)
    by false z = sym (some_one z)

-- ---- parts as a node says them

abbrev utter : Option Message → Utterance
utter (Some m) = Says m
utter None = Greeting

abbrev uttered : Route → List Happening → Part → Utterance
uttered s H part.Greeting = Greeting
uttered s H part.Ready = Ready
uttered s H (part.Message k) = utter (nth k (queued_on s H))

module _ (H : List Happening) (c : CarriedConn) (readable : AllByRecursion IsReadable (queued_on c.along H)) where
  abbrev said : List Part → List Utterance
  said ps = map (uttered c.along H) ps

  abbrev id : PeerId
  id = c.along.from.settings.id

  same_octets : (ps : List Part) → AllByRecursion (λ p. can_carry H p c ≡ true) ps → streamed c.along H ps ≡ stream id (said ps)
  same_octets [] a = refl
  same_octets (part.Greeting ∷ ps) a = ap (λ o. spelling c.along H part.Greeting ++ o) (same_octets ps a.1)
  same_octets (part.Ready ∷ ps) a = ap (λ o. spelling c.along H part.Ready ++ o) (same_octets ps a.1)
  same_octets (part.Message k ∷ ps) a = by (nth k (queued_on c.along H)) a.0 (same_octets ps a.1)
    where
      by : (o : Option Message) → is_some o ≡ true → streamed c.along H ps ≡ stream id (said ps) → option_map_or octets o [] ++ streamed c.along H ps ≡ stream id (utter o ∷ said ps)
      by None e r = absurd (true≢false (sym e))
      by (Some m) e r = ap (λ q. octets m ++ q) r

  hearable : (ps : List Part) → AllByRecursion IsHearable (said ps)
  hearable [] = tt
  hearable (part.Greeting ∷ ps) = (tt, hearable ps)
  hearable (part.Ready ∷ ps) = (tt, hearable ps)
  hearable (part.Message k ∷ ps) = (by (nth k (queued_on c.along H)) refl, hearable ps)
    where
      by : (o : Option Message) → nth k (queued_on c.along H) ≡ o → IsHearable (utter o)
      by None e = tt
      by (Some m) e = all_at IsReadable k (queued_on c.along H) m readable e

  picked : (ps : List Part) → AllByRecursion (λ p. can_carry H p c ≡ true) ps → ArePicked (queued_on c.along H) (filter_map number_in ps) (messages (said ps))
  picked [] a = tt
  picked (part.Greeting ∷ ps) a = picked ps a.1
  picked (part.Ready ∷ ps) a = picked ps a.1
  picked (part.Message k ∷ ps) a = by k (nth k (queued_on c.along H)) refl a.0 (picked ps a.1)
    where
      there : (k : ℕ) (m : Message) → nth k (queued_on c.along H) ≡ Some m → IsPicked (queued_on c.along H) k m
      there zero m e = absurd cc
      there (suc k) m e = record { some = omega arith; is_there = let j : suc k - 1 ≡ k = omega arith in ap (slice_get (queued_on c.along H)) j ∙ e }

      by : (k : ℕ) (o : Option Message) → nth k (queued_on c.along H) ≡ o → is_some o ≡ true → ArePicked (queued_on c.along H) (filter_map number_in ps) (messages (said ps))
          → ArePicked (queued_on c.along H) (k ∷ filter_map number_in ps) (cons_option (said_by (utter o)) (messages (said ps)))
      by k None e z r = absurd (true≢false (sym z))
      by k (Some m) e z r = (there k m e, r)

-- ---- one node

module _ (H : List Happening) (s : Carries H) (near : IsWithinWindow H) (b : Incarnation) (known : IsKnown H b) where
  abbrev g : Config
  g = b.settings

  abbrev J : List Entry
  J = journal b H

  abbrev A : List Mark
  A = chronicle_of b H

  abbrev L : Ledger
  L = ledger_of H

  readable : (x : ℕ) (c : CarriedConn) → nth x (conns H) ≡ Some c → AllByRecursion IsReadable (queued_on c.along H)
  readable x c e = are_readable c.along.from.settings (journal c.along.from H) (s.can c.along.from ((s.each x c e).from_known)) c.along.link

  abbrev us : (x : ℕ) (c : CarriedConn) → nth x (conns H) ≡ Some c → List Utterance
  us x c e = said H c (readable x c e) (carried x H)

  abbrev who : CarriedConn → PeerId
  who c = c.along.from.settings.id

  -- what came of a connection that opened here
  come : (x : ℕ) (c : CarriedConn) (e : nth x (conns H) ≡ Some c) → c.to ≡ b → was_opened x A ≡ true → arrivals g.id (bytes x A ++ pending x H) ≡ heard_of g.id (who c) (us x c e)
  come x c e here o =
      let k = s.each x c e in
      ap (arrivals g.id) (subst (λ d. was_opened x (chronicle_of d H) ≡ true → bytes x (chronicle_of d H) ++ pending x H ≡ streamed c.along H (carried x H)) here k.octets o ∙ same_octets H c (readable x c e) (carried x H) k.sayable)
      ∙ are_heard g.id (who c) (s.can c.along.from k.from_known).sixteen (us x c e) (hearable H c (readable x c e) (carried x H))

  quiet : (x : ℕ) → was_opened x A ≡ false → heard_on g x A ≡ []
  quiet x o = ap (λ q. heard (talk g.id q)) ((keeps g J).none_before_opening x o) ∙ ap heard (nothing_said g.id)

  none_picked : (sent : List Message) (picks : List ℕ) (x : ℕ) → was_opened x A ≡ false → ArePicked sent picks (heard_on g x A)
  none_picked sent picks x o = subst (ArePicked sent picks) (sym (quiet x o)) tt

  here_picked : (x : ℕ) (c : CarriedConn) (e : nth x (conns H) ≡ Some c) → c.to ≡ b → was_opened x A ≡ true → ArePicked (queued_on c.along H) (filter_map number_in (carried x H)) (heard_on g x A)
  here_picked x c e here o =
      let k = s.each x c e in
      let grown = (goes g.id (bytes x A) (pending x H)).arrived in
      let f = said_front g.id (who c) (us x c e) in
      let all : messages (us x c e) ≡ (arrived (arrivals g.id (bytes x A)) ++ _) ++ f.0 = f.1 ∙ ap (λ ms. arrived ms ++ f.0) (sym (come x c e here o) ∙ grown) ∙ ap (λ ms. ms ++ f.0) (arrived_both (arrivals g.id (bytes x A)) _) in
      let p = front_picked (queued_on c.along H) (filter_map number_in (carried x H)) _ f.0 (subst (ArePicked (queued_on c.along H) (filter_map number_in (carried x H))) all (picked H c (readable x c e) (carried x H) k.sayable)) in
      subst (ArePicked (queued_on c.along H) (filter_map number_in (carried x H))) (sym (heard_arrived (fault_in g.id (bytes x A)) (arrivals g.id (bytes x A)))) (front_picked (queued_on c.along H) (filter_map number_in (carried x H)) (arrived (arrivals g.id (bytes x A))) _ p)

  one_picked : (x : ℕ) (o : Option CarriedConn) → nth x (conns H) ≡ o → ArePicked (option_map_or (λ (c : CarriedConn). queued_on c.along H) o []) (filter_map number_in (carried x H)) (heard_on g x A)
  one_picked x None e = none_picked [] (filter_map number_in (carried x H)) x (s.unopened x e b known)
  one_picked x (Some c) e = by (eqb b.number c.to.number) refl (was_opened x A) refl
    where
      by : (t : Bool) → eqb b.number c.to.number ≡ t → (o : Bool) → was_opened x A ≡ o → ArePicked (queued_on c.along H) (filter_map number_in (carried x H)) (heard_on g x A)
      by false z o w = none_picked (queued_on c.along H) (filter_map number_in (carried x H)) x ((s.each x c e).elsewhere b known z)
      by true z false w = none_picked (queued_on c.along H) (filter_map number_in (carried x H)) x w
      by true z true w = here_picked x c e (same_who H c.to b ((s.each x c e).to_known) known (sym (eqb-true b.number c.to.number z))) w

  one_numbered : (x : ℕ) (o : Option CarriedConn) → nth x (conns H) ≡ o → IsNumbered (option_map_or (λ (c : CarriedConn). queued_on c.along H) o [])
  one_numbered x None e = λ i m z. absurd (let w : None ≡ Some m = z in cc)
  one_numbered x (Some c) e = (spoke_truly c.along.from.settings (journal c.along.from H) (s.can c.along.from ((s.each x c e).from_known))).are_numbered c.along.link

  drawn : IsDrawn g L A
  drawn = record { are_numbered = λ x. one_numbered x (nth x (conns H)) refl; are_picked = λ x. one_picked x (nth x (conns H)) refl }

  kept : KeepsLedger L (events g J) A
  kept = (keeps_ledgers g J L drawn (near b known)).0

  -- ---- a run

  module _ (x : ℕ) (K later : List Mark) (v : Life) (at : A ≡ later ++ K) (life_is : life v.link K ≡ Some v) (run : runs x K ≡ Some v.link) where
    record IsMoment : Type 0 where
      proper : IsProper K
      its_told : IsTold K
      passed : ArePassed K

    now : IsMoment
    now =
        let m = at_moments g (λ M. IsTold M × ArePassed M) (λ h M q y o. (told_more h M q y o.0, passed_more h M q y o.1)) (none_told, none_passed) J later K at in
        record { proper = m.0; its_told = m.1.0; passed = m.1.1 }

    start : (started x K ≡ Some v.link) × (has_ended v.link K ≡ false)
    start = has_started K now.proper x v.link run

    is_run : runner v.link K ≡ Some x
    is_run = run_is K now.proper x v.link run

    opened : was_opened x A ≡ true
    opened = ap (was_opened x) at ∙ still_opened x later K (any_has (λ y. was_opened y K ≡ true) x (open_ones K) now.proper.opening.were_opened (now.proper.running.is_heard x v.link is_run start.1))

    record IsFound : Type 0 where
      c : CarriedConn
      there : nth x (conns H) ≡ Some c
      here : c.to ≡ b

    found : IsFound
    found = by (nth x (conns H)) refl
      where
        by : (o : Option CarriedConn) → nth x (conns H) ≡ o → IsFound
        by None e = absurd (true≢false (sym opened ∙ s.unopened x e b known))
        by (Some c) e = at_b (eqb b.number c.to.number) refl
          where
            at_b : (t : Bool) → eqb b.number c.to.number ≡ t → IsFound
            at_b true z = record { c = c; there = e; here = same_who H c.to b ((s.each x c e).to_known) known (sym (eqb-true b.number c.to.number z)) }
            at_b false z = absurd (true≢false (sym opened ∙ (s.each x c e).elsewhere b known z))

    abbrev c : CarriedConn
    c = found.c

    abbrev sent : List Message
    sent = queued_on c.along H

    abbrev n : ℕ
    n = length (counted v.link K)

    same : counted v.link K ≡ counted_on x K
    same = now.its_told.same x v.link is_run

    first : counted v.link K ≡ take n sent
    first =
        let more = each_grows (message_on x) later K in
        let all : counted_on x K ++ more.0 ≡ take (length (counted_on x A)) sent = sym (ap (counted_on x) at ∙ more.1) ∙ kept.are_first x ∙ ap (λ o. take (length (counted_on x A)) (option_map_or (λ (d : CarriedConn). queued_on d.along H) o [])) found.there in
        same ∙ take_front (length (counted_on x A)) (counted_on x K) sent more.0 all ∙ ap (λ (ms : List Message). take (length ms) sent) (sym same)

    some : 1 ≤ n
    some = let p = now.its_told.begun x v.link start.0 in let e = ap (length {A = Message}) same in omega (arith, p, e)

    within : n ≤ length sent
    within = let e = ap (length {A = Message}) first in let t = take_short n sent in omega (arith, e, t)

    peer : v.id ≡ who c
    peer =
        let k = s.each x c found.there in
        let i = still_identified g J later K at x v.id (now.proper.running.is_its_own x v.link v is_run start.1 life_is) in
        let j = introduced_stays g.id (bytes x A) (pending x H) v.id (is_introduced g J x v.id i) in
        said_identity g.id (who c) v.id (us x c found.there) (sym (ap identity_in (come x c found.there found.here opened)) ∙ j)

    pub agrees : Agrees H b x K v
    agrees = record {
      c = c;
      is_conn = found.there;
      is_here = found.here;
      is_its_peer = peer;
      are_first = first;
      shows_it = ap view_of first ∙ (spoke_truly c.along.from.settings (journal c.along.from H) (s.can c.along.from ((s.each x c found.there).from_known))).was_true c.along.link n some within;
      tells_it = now.passed.passed x v.link v life_is is_run ∙ ap (told v.id) first;
      grows = λ M since e r. let m = each_grows (message_at v.link) since M in let l = ap (length {A = Message}) (ap (counted v.link) e ∙ m.1) in let q = length-append (counted v.link M) m.0 in omega (arith, l, q);
    }

pub all_agree : (H : List Happening) → Carries H → IsWithinWindow H → (b : Incarnation) (x : ℕ) (K : List Mark) (v : Life) → IsShown H b x K v → Agrees H b x K v
all_agree H s near b x K v i = agrees H s near b i.is_node x K i.later v i.is_moment i.is_known i.is_run
