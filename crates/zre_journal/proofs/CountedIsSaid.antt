-- What is counted on a connection is what its octets say.
use Rattle.std.proofs.Common.{◌≡◌, ℕ, ◌+◌, Bool, true, false, true≢false, cond, not, ◌&&◌, ◌||◌, eqb, ltb, List, [], ◌∷◌, ◌++◌, length, map, Option, Some, None, IsSome, is_none, refl, sym, ap, ◌∙◌, subst, inl, inr, eq-eqb, append_assoc, append-nil}
use Rattle.std.proofs.lemmas.Bool.{and_from}
use Rattle.std.proofs.lemmas.List.Elements.{filter_map-append}
use Rattle.std.specs.List.{cons_option, AllByRecursion}
use Rattle.std.specs.Option.{option_or}
use Rattle.std.proofs.Math.Bool.{or-true}
use Rattle.zre_values.specs.declared.peer_id.PeerId.{PeerId}
use Rattle.zre_values.specs.declared.endpoint.Endpoint.{Endpoint}
use Rattle.zre_values.specs.declared.limits.TheConstants.{PEERS}
use Rattle.zre_values.specs.Endpoint.{endpoint_in}
use Rattle.zre_zmtp.specs.declared.fault.ZmtpFault.{ZmtpFault}
use Rattle.zre_mailbox.specs.declared.arrival.Arrival.{Arrival}
use Rattle.zre_mailbox.specs.declared.arrival.Arrival.TheVariants as arrival
use Rattle.zre_mailbox.specs.Talk.{Said, Arrived, Fault, talk, fault_in, fault_said}
use Rattle.zre_mailbox.proofs.ArrivalsInOrder.{in_order}
use Rattle.zre_msg.specs.declared.message.Message.{Message}
use Rattle.zre_peer.specs.Runs.{is_hello, due}
use Rattle.zre_peer.specs.Views.{view_of, is_small}
use Rattle.zre_peer.specs.declared.causes.Cause.{Cause}
use Rattle.zre_peer.specs.declared.causes.Cause.TheVariants as cause
use Rattle.zre_peer.specs.declared.causes.CloseWhy.TheVariants as close
use Rattle.zre_peer.specs.declared.causes.IgnoreWhy.{IgnoreWhy}
use Rattle.zre_peer.specs.declared.causes.IgnoreWhy.TheVariants as ignore
use Rattle.zre_values.specs.declared.settings.Settings.{Settings as Config}
use Rattle.zre_journal.specs.Arrivals.{end_of_run, taken_over, start_unknown, start, at_first, answer_to, at_later, at_message, at_ready, at_said, at_place, at_places}
use Rattle.zre_journal.specs.Chronicle.{Mark, Comes, Opens, Greets, Identifies, AnswersPing, Starts, Counts, Ignores, Closes, Ends, after, ever, followed}
use Rattle.zre_journal.specs.Connections.{open_ones, is_open, identity, started, start_at, runs, refuses, was_used, is_ignored, is_live, other_with}
use Rattle.zre_journal.specs.Heard.{opens}
use Rattle.zre_journal.specs.Hearing.{message_in, heard}
use Rattle.zre_journal.specs.Laws.{counted_on}
use Rattle.zre_journal.specs.Peers.{Life, lives, life_of, births, counted}
use Rattle.zre_journal.specs.Proper.{IsProper}
use Rattle.zre_journal.specs.Pushes.{birth}
use Rattle.zre_journal.proofs.LiveConnectionsFaultless.{live_from}
use Rattle.zre_journal.proofs.JoinedEntries.{after-append}
use Rattle.zre_journal.proofs.HeardUnchanged.{Quiet, AreQuiet}
use Rattle.zre_journal.proofs.KnownAreBorn.{none_open}
use Rattle.zre_journal.proofs.WhenMarksCome.{steps, choice}
use Rattle.zre_journal.proofs.ProperPeers.{has_started}
use Rattle.zre_journal.proofs.SaidWithinLimit.{MaySay}
use Rattle.zre_journal.proofs.EachMarkOfEntries.{Ground, silence, allowed, quiet}
use Rattle.zre_journal.proofs.SaidOnConnections.{place_outcome, taken_over_brought, answer_brought}
use Rattle.zre_journal.proofs.MarksOfEntries.{all_brought}
use Rattle.zre_journal.proofs.ProperAfterMarks.{run_known}

-- ---- what is said

abbrev pub introduced : List Said → Option PeerId
introduced [] = None
introduced (Arrived arrival.Greeted ∷ said) = introduced said
introduced (Arrived (arrival.Shaken p) ∷ said) = Some p
introduced (Arrived (arrival.Ping t) ∷ said) = introduced said
introduced (Arrived (arrival.Message m) ∷ said) = introduced said
introduced (Fault f ∷ said) = introduced said

abbrev pub has_fault : List Said → Bool
has_fault [] = false
has_fault (Arrived a ∷ said) = has_fault said
has_fault (Fault f ∷ said) = true

introduced-append : (xs ys : List Said) → introduced (xs ++ ys) ≡ option_or (introduced xs) (introduced ys)
introduced-append [] ys = refl
introduced-append (Arrived arrival.Greeted ∷ xs) ys = introduced-append xs ys
introduced-append (Arrived (arrival.Shaken p) ∷ xs) ys = refl
introduced-append (Arrived (arrival.Ping t) ∷ xs) ys = introduced-append xs ys
introduced-append (Arrived (arrival.Message m) ∷ xs) ys = introduced-append xs ys
introduced-append (Fault f ∷ xs) ys = introduced-append xs ys

fault-append : (xs ys : List Said) → has_fault (xs ++ ys) ≡ (has_fault xs || has_fault ys)
fault-append [] ys = refl
fault-append (Arrived a ∷ xs) ys = fault-append xs ys
fault-append (Fault f ∷ xs) ys = refl

or_none : (o : Option PeerId) → option_or o None ≡ o
or_none None = refl
or_none (Some p) = refl

-- a message is said only after READY
after_fault : (f : Option ZmtpFault) (said rest : List Said) (m : Message) → fault_said f ≡ said ++ Arrived (arrival.Message m) ∷ rest → ⊥
after_fault None [] rest m e = absurd cc
after_fault None (x ∷ said) rest m e = absurd cc
after_fault (Some f) [] rest m e = absurd (let z : Fault f ≡ Arrived (arrival.Message m) = cc in cc)
after_fault (Some f) (x ∷ []) rest m e = absurd (let z : [] ≡ Arrived (arrival.Message m) ∷ rest = cc in cc)
after_fault (Some f) (x ∷ y ∷ said) rest m e = absurd (let z : [] ≡ y ∷ (said ++ Arrived (arrival.Message m) ∷ rest) = cc in cc)

pub spoken : (own : PeerId) (o : List ℕ) (said rest : List Said) (m : Message) → talk own o ≡ said ++ Arrived (arrival.Message m) ∷ rest → IsSome (introduced said)
spoken own o said rest m e =
    elim (in_order own o) [
      | inl none ↦ absurd (after_fault (fault_in own o) said rest m (sym (ap all none) ∙ e))
      | inr more ↦ elim more [
        | inl one ↦ greeted said (sym (ap all one) ∙ e)
        | inr i ↦ met i.peer (map (λ a. Arrived a) i.traffic ++ fault_said (fault_in own o)) said (sym (ap all i.is) ∙ e)
      ]
    ]
  where
    all : List Arrival → List Said
    all as_ = map (λ a. Arrived a) as_ ++ fault_said (fault_in own o)

    greeted : (xs : List Said) → Arrived arrival.Greeted ∷ fault_said (fault_in own o) ≡ xs ++ Arrived (arrival.Message m) ∷ rest → IsSome (introduced xs)
    greeted [] z = absurd (let w : Arrived arrival.Greeted ≡ Arrived (arrival.Message m) = cc in cc)
    greeted (x ∷ xs) z = absurd (after_fault (fault_in own o) xs rest m (let w : fault_said (fault_in own o) ≡ xs ++ Arrived (arrival.Message m) ∷ rest = cc in w))

    met : (p : PeerId) (ys xs : List Said) → Arrived arrival.Greeted ∷ Arrived (arrival.Shaken p) ∷ ys ≡ xs ++ Arrived (arrival.Message m) ∷ rest → IsSome (introduced xs)
    met p ys [] z = absurd (let w : Arrived arrival.Greeted ≡ Arrived (arrival.Message m) = cc in cc)
    met p ys (x ∷ []) z = absurd (let w : Arrived (arrival.Shaken p) ≡ Arrived (arrival.Message m) = cc in cc)
    met p ys (x ∷ y ∷ xs) z =
        let first : x ≡ Arrived arrival.Greeted = cc in
        let second : y ≡ Arrived (arrival.Shaken p) = cc in
        subst (λ u. IsSome (introduced (u ∷ y ∷ xs))) (sym first) (subst (λ u. IsSome (introduced (u ∷ xs))) (sym second) refl)

-- ---- what was said on c, and what H has of it

pub record Follows (c : ℕ) (said : List Said) (H : List Mark) : Type 0 where
  pub rest : List Message
  pub front : heard said ≡ counted_on c H ++ rest
  pub whole : is_live c H ≡ true → heard said ≡ counted_on c H
  pub sound : is_live c H ≡ true → has_fault said ≡ false
  pub who : is_live c H ≡ true → identity c H ≡ introduced said

-- one that is live after a quiet mark was so before
live_before : (c : ℕ) (h : Mark) (H : List Mark) → start_at c h ≡ None → opens c h ≡ false → is_live c (h ∷ H) ≡ true → is_live c H ≡ true
live_before c h H s n v =
    elim (live_from h H c s v) [
      | inl o ↦ absurd (true≢false (sym o ∙ n))
      | inr w ↦ w
    ]

quiet_step : (c : ℕ) (said : List Said) (h : Mark) (H : List Mark) → Quiet c h → Follows c said H → Follows c said (h ∷ H)
quiet_step c said (Comes e) H q o = absurd q
quiet_step c said (Opens d) H q o =
    let b = live_before c (Opens d) H refl q in
    record { rest = o.rest; front = o.front; whole = λ v. o.whole (b v); sound = λ v. o.sound (b v); who = λ v. o.who (b v) }
quiet_step c said (Identifies d p) H q o =
    let b = live_before c (Identifies d p) H refl refl in
    record { rest = o.rest; front = o.front; whole = λ v. o.whole (b v); sound = λ v. o.sound (b v); who = λ v. ap (λ t. option_or (cond t (Some p) None) (identity c H)) q ∙ o.who (b v) }
quiet_step c said (Starts d l m) H q o =
    let b = live_before c (Starts d l m) H (ap (λ t. cond t (Some l) None) q) refl in
    let same : counted_on c (Starts d l m ∷ H) ≡ counted_on c H = ap (λ t. followed (counted_on c H) (cond t (Some m) None)) q in
    record { rest = o.rest; front = o.front ∙ ap (λ ms. ms ++ o.rest) (sym same); whole = λ v. o.whole (b v) ∙ sym same; sound = λ v. o.sound (b v); who = λ v. o.who (b v) }
quiet_step c said (Counts d l m) H q o =
    let b = live_before c (Counts d l m) H refl refl in
    let same : counted_on c (Counts d l m ∷ H) ≡ counted_on c H = ap (λ t. followed (counted_on c H) (cond t (Some m) None)) q in
    record { rest = o.rest; front = o.front ∙ ap (λ ms. ms ++ o.rest) (sym same); whole = λ v. o.whole (b v) ∙ sym same; sound = λ v. o.sound (b v); who = λ v. o.who (b v) }
quiet_step c said h H q o =
    let b = live_before c h H refl refl in
    record { rest = o.rest; front = o.front; whole = λ v. o.whole (b v); sound = λ v. o.sound (b v); who = λ v. o.who (b v) }

pub quiet_steps : (c : ℕ) (said : List Said) (hs H : List Mark) → AreQuiet c hs → Follows c said H → Follows c said (after hs H)
quiet_steps c said [] H q o = o
quiet_steps c said (h ∷ hs) H q o = quiet_steps c said hs (h ∷ H) q.1 (quiet_step c said h H q.0 o)

-- ---- one place more

none : (o : Option PeerId) → o ≡ None → IsSome o → ⊥
none None e s = absurd cc
none (Some p) e s = absurd cc

dead : (b i : Bool) → i ≡ true → (b && not i) ≡ false
dead true true e = refl
dead true false e = cc
dead false i e = refl

module _ (g : Config) (c : ℕ) (said : List Said) (K : List Mark) where
  abbrev more : Said → List Said
  more x = said ++ x ∷ []

  heard_more : (x : Said) → heard (more x) ≡ heard said ++ cons_option (message_in x) []
  heard_more x = filter_map-append message_in said (x ∷ [])

  -- c isn't live any more
  gone : (x : Said) (H : List Mark) → is_live c H ≡ false → counted_on c H ≡ counted_on c K → Follows c said K → Follows c (more x) H
  gone x H dead same o = record {
    rest = o.rest ++ cons_option (message_in x) [];
    front = heard_more x ∙ ap (λ ms. ms ++ cons_option (message_in x) []) (o.front ∙ ap (λ ms. ms ++ o.rest) (sym same)) ∙ append_assoc (counted_on c H) o.rest (cons_option (message_in x) []);
    whole = λ v. absurd (true≢false (sym v ∙ dead));
    sound = λ v. absurd (true≢false (sym v ∙ dead));
    who = λ v. absurd (true≢false (sym v ∙ dead));
  }

  -- what isn't a message, nor a fault, and whom it introduces
  silent : (x : Said) (H : List Mark) → message_in x ≡ None → has_fault (x ∷ []) ≡ false → Follows c said H → (is_live c H ≡ true → identity c H ≡ introduced (more x)) → Follows c (more x) H
  silent x H none fine o who =
      let same : heard (more x) ≡ heard said = heard_more x ∙ ap (λ m. heard said ++ cons_option m []) none ∙ append-nil (heard said) in
      record {
        rest = o.rest;
        front = same ∙ o.front;
        whole = λ v. same ∙ o.whole v;
        sound = λ v. fault-append said (x ∷ []) ∙ ap (λ b. b || has_fault (x ∷ [])) (o.sound v) ∙ fine;
        who = who;
      }

  -- a message is counted, where all was counted before
  one_more : (m : Message) (H : List Mark) → counted_on c H ≡ counted_on c K ++ m ∷ [] → identity c H ≡ identity c K → is_live c K ≡ true → Follows c said K → Follows c (more (Arrived (arrival.Message m))) H
  one_more m H counts same live o =
      let all : heard (more (Arrived (arrival.Message m))) ≡ counted_on c H = heard_more (Arrived (arrival.Message m)) ∙ ap (λ ms. ms ++ m ∷ []) (o.whole live) ∙ sym counts in
      record {
        rest = [];
        front = all ∙ sym (append-nil (counted_on c H));
        whole = λ v. all;
        sound = λ v. fault-append said (Arrived (arrival.Message m) ∷ []) ∙ ap (λ b. b || false) (o.sound live);
        who = λ v. same ∙ o.who live ∙ sym (introduced-append said (Arrived (arrival.Message m) ∷ []) ∙ or_none (introduced said));
      }

  shut : (H : List Mark) → is_open c H ≡ false → is_live c H ≡ false
  shut H e = ap (λ b. b && not (is_ignored c H)) e

  -- ---- on a live connection

  module _ (q : IsProper K) (o : Follows c said K) (live : is_live c K ≡ true) where
    fault_follows : (f : ZmtpFault) → Follows c (more (Fault f)) (after (end_of_run g (runs c K) cause.Fault ++ Closes c (close.Zmtp f) ∷ []) K)
    fault_follows f = by (runs c K)
      where
        by : (r : Option ℕ) → Follows c (more (Fault f)) (after (end_of_run g r cause.Fault ++ Closes c (close.Zmtp f) ∷ []) K)
        by None = gone (Fault f) (Closes c (close.Zmtp f) ∷ K) (shut (Closes c (close.Zmtp f) ∷ K) (none_open c c (eq-eqb c c refl) (open_ones K))) refl o
        by (Some l) = gone (Fault f) (Closes c (close.Zmtp f) ∷ Ends l cause.Fault ∷ K) (shut (Closes c (close.Zmtp f) ∷ Ends l cause.Fault ∷ K) (none_open c c (eq-eqb c c refl) (open_ones K))) refl o

    ready_follows : (p : PeerId) → Follows c (more (Arrived (arrival.Shaken p))) (after (at_ready g c p (identity c K) K) K)
    ready_follows p = by (identity c K) refl
      where
        x : Said
        x = Arrived (arrival.Shaken p)

        by : (i : Option PeerId) → identity c K ≡ i → Follows c (more x) (after (at_ready g c p i K) K)
        by (Some i) e = silent x K refl refl o (λ v. e ∙ sym (introduced-append said (x ∷ []) ∙ ap (λ j. option_or j (Some p)) (sym (o.who v) ∙ e)))
        by None e =
            let hs = taken_over g (other_with p c K) K in
            let H = after hs K in
            let r = quiet_steps c said hs K (quiet g silence true c refl hs K (taken_over_brought g silence true K q p c (other_with p c K) refl)) o in
            let same : heard (more x) ≡ heard said = heard_more x ∙ append-nil (heard said) in
            subst (Follows c (more x)) (sym (after-append hs (Identifies c p ∷ []) K)) (record {
              rest = r.rest;
              front = same ∙ r.front;
              whole = λ v. same ∙ r.whole v;
              sound = λ v. fault-append said (x ∷ []) ∙ ap (λ b. b || false) (r.sound v);
              who = λ v. ap (λ t. option_or (cond t (Some p) None) (identity c H)) (eq-eqb c c refl) ∙ sym (introduced-append said (x ∷ []) ∙ ap (λ j. option_or j (Some p)) (sym (o.who live) ∙ e));
            })

    abbrev F : Said → List Mark → Type 0
    F x hs = Follows c (more x) (after hs K)

    module _ (m : Message) where
      abbrev x : Said
      x = Arrived (arrival.Message m)

      ignored : (why : IgnoreWhy) → runs c K ≡ None → Follows c (more x) (Ignores c why ∷ K)
      ignored why r = gone x (Ignores c why ∷ K) (dead (is_open c K) (is_ignored c (Ignores c why ∷ K)) (let me : eqb c c ≡ true = eq-eqb c c refl in rw (r, me) refl)) refl o

      counts : (H : List Mark) → counted_on c H ≡ followed (counted_on c K) (cond (eqb c c) (Some m) None) → identity c H ≡ identity c K → Follows c (more x) H
      counts H n i = one_more m H (n ∙ ap (λ t. followed (counted_on c K) (cond t (Some m) None)) (eq-eqb c c refl)) i live o

      start_follows : runs c K ≡ None → (p : PeerId) → Follows c (more x) (after (start g c p m (life_of p K) K) K)
      start_follows r p = by (life_of p K)
        where
          unknown : (t : Option Endpoint) → Follows c (more x) (after (start_unknown g c p m t K) K)
          unknown None = ignored ignore.NoEndpoint r
          unknown (Some to) = choice (F x) (ltb (length (lives K)) PEERS) _ _ (λ z. counts (Starts c (births K + 1) m ∷ after (birth g p to K) K) refl refl) (λ z. ignored ignore.Full r)

          by : (v : Option Life) → Follows c (more x) (after (start g c p m v K) K)
          by (Some v) = counts (Starts c v.link m ∷ K) refl refl
          by None = unknown (endpoint_in (view_of (m ∷ [])).endpoint)

      first_follows : runs c K ≡ None → IsSome (introduced said) → Follows c (more x) (after (at_first g c (identity c K) m K) K)
      first_follows r met = by (identity c K) refl
        where
          by : (i : Option PeerId) → identity c K ≡ i → Follows c (more x) (after (at_first g c i m K) K)
          by None e = let z : IsSome (identity c K) = subst IsSome (sym (o.who live)) met in absurd (none (identity c K) e z)
          by (Some p) e = choice (F x) (not (is_hello m.body && eqb m.sequence 1)) _ _ (λ z. ignored ignore.NotHello r)
              (λ z. choice (F x) (not (is_small (view_of (m ∷ [])))) _ _ (λ y. ignored ignore.Limit r) (λ y. start_follows r p))

      later_follows : (l : ℕ) → runs c K ≡ Some l → Follows c (more x) (after (at_later g c l m K) K)
      later_follows l r = choice (F x) (is_hello m.body) _ _ (λ z. ended cause.Hello)
          (λ z. choice (F x) (not (eqb m.sequence (due (counted l K)))) _ _ (λ y. ended (cause.Order (due (counted l K)) m.sequence))
          (λ y. choice (F x) (not (is_small (view_of (counted l K ++ m ∷ [])))) _ _ (λ v. ended cause.Limit)
          (λ v. quiet_steps c (more x) (answer_to g l m.body K) (Counts c l m ∷ K) (quiet g silence true c refl (answer_to g l m.body K) (Counts c l m ∷ K) (answer_brought g silence true K q l m.body c m (run_known K q c l r))) (counts (Counts c l m ∷ K) refl refl))))
        where
          s : started c K ≡ Some l
          s = (has_started K q c l r).0

          ended : (why : Cause) → Follows c (more x) (Ends l why ∷ K)
          ended why = gone x (Ends l why ∷ K) (dead (is_open c K) (is_ignored c (Ends l why ∷ K)) (and_from (is_none (runs c (Ends l why ∷ K))) (was_used c (Ends l why ∷ K))
              (let me : eqb l l ≡ true = eq-eqb l l refl in rw (s, me) refl) (rw s (or-true (ever (refuses c) K))))) refl o

      message_follows : IsSome (introduced said) → Follows c (more x) (after (at_message g c (runs c K) m K) K)
      message_follows met = by (runs c K) refl
        where
          by : (r : Option ℕ) → runs c K ≡ r → Follows c (more x) (after (at_message g c r m K) K)
          by None e = first_follows e met
          by (Some l) e = later_follows l e

    said_follows : (x : Said) → ((m : Message) → x ≡ Arrived (arrival.Message m) → IsSome (introduced said)) → Follows c (more x) (after (at_said g c x K) K)
    said_follows (Arrived arrival.Greeted) met = silent (Arrived arrival.Greeted) (Greets c ∷ K) refl refl (quiet_step c said (Greets c) K tt o)
        (λ v. o.who live ∙ sym (introduced-append said (Arrived arrival.Greeted ∷ []) ∙ or_none (introduced said)))
    said_follows (Arrived (arrival.Shaken p)) met = ready_follows p
    said_follows (Arrived (arrival.Ping t)) met = silent (Arrived (arrival.Ping t)) (AnswersPing c t ∷ K) refl refl (quiet_step c said (AnswersPing c t) K tt o)
        (λ v. o.who live ∙ sym (introduced-append said (Arrived (arrival.Ping t) ∷ []) ∙ or_none (introduced said)))
    said_follows (Arrived (arrival.Message m)) met = message_follows m (met m refl)
    said_follows (Fault f) met = fault_follows f

  place_follows : IsProper K → (x : Said) → ((m : Message) → x ≡ Arrived (arrival.Message m) → IsSome (introduced said)) → Follows c said K → Follows c (more x) (after (at_place g c x K) K)
  place_follows q x met o = by (is_live c K) refl
    where
      by : (b : Bool) → is_live c K ≡ b → Follows c (more x) (after (cond b (at_said g c x K) []) K)
      by true e = said_follows q o e x met
      by false e = gone x K e refl o

-- ---- all that is newly said

pub places_follow : (g : Config) (c : ℕ) (xs said : List Said) (K : List Mark) → AllByRecursion (MaySay g.id) xs → ((m : Message) (ys zs : List Said) → said ++ xs ≡ ys ++ Arrived (arrival.Message m) ∷ zs → IsSome (introduced ys))
    → IsProper K → Follows c said K → Follows c (said ++ xs) (after (at_places g c xs K) K)
places_follow g c [] said K may met q o = subst (λ ys. Follows c ys K) (sym (append-nil said)) o
places_follow g c (x ∷ xs) said K may met q o =
    let hs = at_place g c x K in
    let w : Ground = record { of = λ d. true; stops = false } in
    let p = steps hs K q (allowed g w true hs K (all_brought (place_outcome g w c refl x may.0 K q))) in
    let r = place_follows g c said K q x (λ m e. met m said xs (ap (λ y. said ++ y ∷ xs) e)) o in
    subst (Follows c (said ++ x ∷ xs)) (sym (after-append hs (at_places g c xs (after hs K)) K))
    (subst (λ ys. Follows c ys (after (at_places g c xs (after hs K)) (after hs K))) (append_assoc said (x ∷ []) xs)
    (places_follow g c xs (said ++ x ∷ []) (after hs K) may.1 (λ m ys zs e. met m ys zs (sym (append_assoc said (x ∷ []) xs) ∙ e)) p r))
