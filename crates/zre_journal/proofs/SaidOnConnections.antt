-- What comes about as something is said on a live connection, and at each entry.
use Rattle.std.proofs.Common.{◌≡◌, ℕ, ◌+◌, Bool, true, false, not, ◌&&◌, ◌||◌, eqb, ltb, List, [], ◌∷◌, ◌++◌, length, Option, Some, None, IsSome, is_some, is_none, refl, sym, ap, ◌∙◌, arith, subst, ◌≤◌, eq-eqb}
use Rattle.std.proofs.lemmas.Bool.{and_parts, not-true, not-false}
use Rattle.std.specs.List.{AllByRecursion}
use Rattle.std.specs.Str.{bytes_eq}
use Rattle.zre_values.specs.declared.peer_id.PeerId.{PeerId}
use Rattle.zre_values.specs.declared.endpoint.Endpoint.{Endpoint}
use Rattle.zre_values.specs.declared.limits.TheConstants.{PEERS, MESSAGE_OCTETS}
use Rattle.zre_values.specs.Endpoint.{endpoint_in}
use Rattle.zre_mailbox.specs.Talk.{Said, Arrived, Fault}
use Rattle.zre_msg.specs.declared.message.Body.{Body}
use Rattle.zre_msg.specs.declared.message.Message.{Message}
use Rattle.zre_peer.specs.Runs.{is_hello, due, may_follow}
use Rattle.zre_peer.specs.Views.{view_of, is_small}
use Rattle.zre_values.specs.declared.settings.Settings.{Settings as Config}
use Rattle.zre_journal.specs.Chronicle.{Mark, Starts, Counts, Ignores, Closes, Born, Ends, Puts, after, ever, Greets, AnswersPing}
use Rattle.zre_journal.specs.Connections.{is_open, identity, started, runs, refuses, was_used, is_ignored, is_live, is_waiting, other_with, others}
use Rattle.zre_journal.specs.Peers.{Life, lives, life, life_of, births, runner, counted}
use Rattle.zre_journal.specs.Proper.{IsProper}
use Rattle.zre_journal.specs.Pushes.{hello}
use Rattle.zre_journal.specs.Arrivals.{taken_over, start_unknown, start, at_first, answer_to, at_later, at_message, at_ready, at_said, at_place, at_places}
use Rattle.zre_peer.specs.declared.causes.Cause.{Cause}
use Rattle.zre_peer.specs.declared.causes.IgnoreWhy.{IgnoreWhy}
use Rattle.zre_beacon.specs.Beacon.{beacon_in}
use Rattle.zre_outside.specs.declared.entry.Input.{Input}
use Rattle.zre_journal.specs.Endings.{is_end}
use Rattle.zre_journal.specs.Config.{CanBe}
use Rattle.zre_journal.specs.Heard.{newly_completed}
use Rattle.zre_journal.specs.Happens.{at_input}
use Rattle.zre_mailbox.specs.declared.arrival.Arrival.TheVariants as arrival
use Rattle.zre_msg.specs.declared.message.Body.TheVariants as body
use Rattle.zre_peer.specs.declared.causes.Cause.TheVariants as cause
use Rattle.zre_peer.specs.declared.causes.CloseWhy.TheVariants as close
use Rattle.zre_peer.specs.declared.causes.IgnoreWhy.TheVariants as ignore
use Rattle.zre_outside.specs.declared.entry.Input.TheVariants as input
use Rattle.zre_journal.proofs.ProperAfterMarks.{known_lives, run_known}
use Rattle.zre_journal.proofs.KnownPeers.{known_of, id_of, newborn_known}
use Rattle.zre_journal.proofs.IdleConnections.{gave_way, other_open}
use Rattle.zre_journal.proofs.WhenMarksCome.{MayStart, Allowed, steps, Each, both, choice}
use Rattle.zre_journal.proofs.WithinLimits.{HasRoom, AllFit}
use Rattle.zre_journal.proofs.SoundMarks.{AreSound, AreOthers}
use Rattle.zre_journal.proofs.HeardUnchanged.{AreQuiet, is_of}
use Rattle.zre_journal.proofs.HelloOctets.{hello_octets}
use Rattle.zre_journal.proofs.EachMarkOfEntries.{Ground, Brought, allowed, sound, fit, quiet}
use Rattle.zre_journal.proofs.MarksOfEntries.{push_brought, run_and, tick_brought, Outcome, plainly, start_of, then, all_brought, nothing, one, birth_brought, datagram_outcome, opened_outcome, shut_outcome, linked_outcome, reply_outcome, unlinked_outcome, took_outcome, command_outcome, stop_outcome, ground}
use Rattle.zre_journal.proofs.SaidWithinLimit.{MaySay, newly_fine}

-- one that runs no peer and isn't ignored was not refused, and has started none
pub unused : (c : ℕ) (H : List Mark) → is_ignored c H ≡ false → runs c H ≡ None → (ever (refuses c) H ≡ false) × (started c H ≡ None)
unused c H i r = let u : was_used c H ≡ false = subst (λ (o : Option ℕ). (is_none o && was_used c H) ≡ false) r i in by (ever (refuses c) H) (started c H) u
  where
    by : (b : Bool) (o : Option ℕ) → (b || is_some o) ≡ false → (b ≡ false) × (o ≡ None)
    by true o e = cc
    by false None e = (refl, refl)
    by false (Some l) e = cc

-- an open one that was not refused, and has started none, waits
unused_waits : (c : ℕ) (H : List Mark) → is_open c H ≡ true → ever (refuses c) H ≡ false → started c H ≡ None → is_waiting c H ≡ true
unused_waits c H o f s = rw (o, f, s) refl

module _ (g : Config) (w : Ground) (t : Bool) (K : List Mark) (q : IsProper K) where
  pub answer_brought : (l : ℕ) (b : Body) (c : ℕ) (m : Message) → IsSome (life l K) → Each (Brought g w t) (answer_to g l b K) (Counts c l m ∷ K)
  answer_brought l body.Ping c m k = push_brought g w t l body.PingOk K (Counts c l m ∷ K) (λ z. record { leaves = λ v. refl; later = refl }) (record { put = λ j. refl; gone = λ j. refl }) k
  answer_brought l _ c m k = tt

  pub taken_over_brought : (p : PeerId) (c : ℕ) (o : Option ℕ) → other_with p c K ≡ o → Each (Brought g w t) (taken_over g o K) K
  taken_over_brought p c None e = tt
  taken_over_brought p c (Some d) e = run_and g w t d cause.Taken (Closes d close.Taken) K q (other_open p c d K e) (λ H r o. (r, o))

module _ (g : Config) (w : Ground) (K : List Mark) (q : IsProper K) (c : ℕ) (own : w.of c ≡ true) (there : is_open c K ≡ true) where
  abbrev O : List Mark → Type 0
  O hs = Outcome g w hs K

  -- ---- a first message

  refused : ever (refuses c) K ≡ false → started c K ≡ None → (why : IgnoreWhy) → O (Ignores c why ∷ [])
  refused free idle why = one g w K q (Ignores c why) (λ t. (unused_waits c K there free idle, tt))

  module _ (free : ever (refuses c) K ≡ false) (idle : started c K ≡ None) (p : PeerId) (who : identity c K ≡ Some p) (m : Message) (short : hello_octets m.body ≤ MESSAGE_OCTETS) (first : may_follow [] m ≡ true) where
    -- nothing has run the peer yet, since only this connection has its identity
    unrun : (v : Life) → life_of p K ≡ Some v → runner v.link K ≡ None
    unrun v e = by (runner v.link K) refl
      where
        by : (o : Option ℕ) → runner v.link K ≡ o → o ≡ None
        by None f = refl
        by (Some d) f =
            let k = known_of K q p v e in
            let n = (known_lives K q v.link v k).0 in
            let other : identity d K ≡ Some p = q.running.is_its_own d v.link v f n k ∙ ap (λ (i : PeerId). Some i) (id_of K p v e) in
            let same = q.running.is_sole d c p (q.running.is_heard d v.link f n) there other who in
            let z : Some v.link ≡ None = sym (q.running.its_run d v.link f n) ∙ ap (λ x. started x K) same ∙ idle in cc

    by_known : (v : Life) → life_of p K ≡ Some v → MayStart c v.link m K
    by_known v e = record { who = v; waits = unused_waits c K there free idle; is_there = there; idle = idle; known = known_of K q p v e; its_own = who ∙ ap (λ (i : PeerId). Some i) (sym (id_of K p v e)); free = unrun v e; first = first }

    by_newborn : (e : Endpoint) → MayStart c (births K + 1) m (Puts (births K + 1) (hello g K) ∷ Born (births K + 1) p e ∷ K)
    by_newborn e = record {
      who = record { link = births K + 1; id = p; endpoint = e };
      waits = unused_waits c K there free idle;
      is_there = there;
      idle = idle;
      known = newborn_known K q p e;
      its_own = who;
      free = (q.living.fresh (births K + 1) (omega arith)).no_run;
      first = first;
    }

    start_outcome : O (start g c p m (life_of p K) K)
    start_outcome = by (life_of p K) refl
      where
        unknown : life_of p K ≡ None → (o : Option Endpoint) → O (start_unknown g c p m o K)
        unknown u None = refused free idle ignore.NoEndpoint
        unknown u (Some e) = choice O (ltb (length (lives K)) PEERS) _ _
            (λ z. let b = birth_brought g w K q p e u z (λ others. others c p who) in start_of p e c m (b.0, (b.1.0, ((by_newborn e, (own, free, short)), tt)))) (λ z. refused free idle ignore.Full)

        by : (o : Option Life) → life_of p K ≡ o → O (start g c p m o K)
        by (Some v) e = one g w K q (Starts c v.link m) (λ t. (by_known v e, (own, free, short)))
        by None e = unknown e (endpoint_in (view_of (m ∷ [])).endpoint)

  first_outcome : ever (refuses c) K ≡ false → started c K ≡ None → (m : Message) → hello_octets m.body ≤ MESSAGE_OCTETS → O (at_first g c (identity c K) m K)
  first_outcome free idle m short = by (identity c K) refl
    where
      by : (o : Option PeerId) → identity c K ≡ o → O (at_first g c o m K)
      by None e = nothing g w K q
      by (Some p) e = choice O (not (is_hello m.body && eqb m.sequence 1)) _ _ (λ z. refused free idle ignore.NotHello)
          (λ z. choice O (not (is_small (view_of (m ∷ [])))) _ _ (λ y. refused free idle ignore.Limit)
          (λ y. start_outcome free idle p e m short (let h = and_parts (is_hello m.body) (eqb m.sequence 1) (not-false (is_hello m.body && eqb m.sequence 1) z) in let s = not-false (is_small (view_of (m ∷ []))) y in rw (h.0, h.1, s) refl)))

  -- ---- a later one

  later_outcome : (l : ℕ) → runs c K ≡ Some l → (m : Message) → O (at_later g c l m K)
  later_outcome l r m = choice O (is_hello m.body) _ _ (λ z. ends cause.Hello)
      (λ z. choice O (not (eqb m.sequence (due (counted l K)))) _ _ (λ y. ends (cause.Order (due (counted l K)) m.sequence))
      (λ y. choice O (not (is_small (view_of (counted l K ++ m ∷ [])))) _ _ (λ x. ends cause.Limit)
      (λ x. plainly (λ t. (
        (record { running = r; later = z; next = not-false (eqb m.sequence (due (counted l K))) y; small = not-false (is_small (view_of (counted l K ++ m ∷ []))) x }, own),
        answer_brought g w t K q l m.body c m (run_known K q c l r),
      )))))
    where
      ends : (why : Cause) → O (Ends l why ∷ [])
      ends why = one g w K q (Ends l why) (λ t. (run_known K q c l r, tt))

  -- ---- READY, and all else

  ready_outcome : (p : PeerId) → bytes_eq p.0 g.id.0 ≡ false → O (at_ready g c p (identity c K) K)
  ready_outcome p other = by (identity c K) refl
    where
      by : (o : Option PeerId) → identity c K ≡ o → O (at_ready g c p o K)
      by (Some i) e = nothing g w K q
      by None e =
          let v = gave_way g K q p c (other_with p c K) refl there in
          plainly (λ t. both (Brought g w t) (taken_over g (other_with p c K) K) _ K (taken_over_brought g w t K q p c (other_with p c K) refl) (((v.same_open ∙ there, v.same_identity ∙ e, v.alone), (own, other)), tt))

  message_outcome : is_ignored c K ≡ false → (m : Message) → hello_octets m.body ≤ MESSAGE_OCTETS → O (at_message g c (runs c K) m K)
  message_outcome i m short = by (runs c K) refl
    where
      by : (o : Option ℕ) → runs c K ≡ o → O (at_message g c o m K)
      by None e = let u = unused c K i e in first_outcome u.0 u.1 m short
      by (Some l) e = later_outcome l e m

  said_outcome : is_ignored c K ≡ false → (said : Said) → MaySay g.id said → O (at_said g c said K)
  said_outcome i (Arrived arrival.Greeted) s = one g w K q (Greets c) (λ t. (tt, tt))
  said_outcome i (Arrived (arrival.Shaken p)) s = ready_outcome p s.1
  said_outcome i (Arrived (arrival.Ping t)) s = one g w K q (AnswersPing c t) (λ z. (tt, tt))
  said_outcome i (Arrived (arrival.Message m)) s = message_outcome i m s.0
  said_outcome i (Fault f) s = plainly (λ t. run_and g w t c cause.Fault (Closes c (close.Zmtp f)) K q there (λ H r o. (r, o)))

module _ (g : Config) (w : Ground) (c : ℕ) (own : w.of c ≡ true) where
  pub place_outcome : (said : Said) → MaySay g.id said → (K : List Mark) → IsProper K → Outcome g w (at_place g c said K) K
  place_outcome said s K q = choice (λ hs. Outcome g w hs K) (is_live c K) _ _
      (λ e. let p = and_parts (is_open c K) (not (is_ignored c K)) e in said_outcome g w K q c own p.0 (not-true (is_ignored c K) p.1) said s) (λ e. nothing g w K q)

  pub places_outcome : (all : List Said) → AllByRecursion (MaySay g.id) all → (K : List Mark) → IsProper K → Outcome g w (at_places g c all K) K
  places_outcome [] s K q = nothing g w K q
  places_outcome (said ∷ all) s K q =
      let a = place_outcome said s.0 K q in
      then a (places_outcome all s.1 (after (at_place g c said K) K) (steps (at_place g c said K) K q (allowed g w true (at_place g c said K) K (all_brought a))))

pub outcome : (g : Config) (i : Input) (H K : List Mark) → IsProper K → Outcome g (ground i) (at_input g i H K) K
outcome g (input.Datagram from o) H K q = datagram_outcome g (ground (input.Datagram from o)) K q from (beacon_in o)
outcome g (input.Opened c) H K q = opened_outcome g (ground (input.Opened c)) K q c (eq-eqb c c refl)
outcome g (input.Piece c o) H K q = places_outcome g (ground (input.Piece c o)) c (eq-eqb c c refl) (newly_completed g.id c H K) (newly_fine g.id c H K) K q
outcome g (input.Shut c) H K q = shut_outcome g (ground (input.Shut c)) K q c
outcome g (input.Linked l) H K q = linked_outcome g (ground (input.Linked l)) K q l (life l K) refl
outcome g (input.Reply l o) H K q = reply_outcome g (ground (input.Reply l o)) K q l H (life l K) refl
outcome g (input.Unlinked l) H K q = unlinked_outcome g (ground (input.Unlinked l)) K q l (life l K) refl
outcome g (input.Took l n) H K q = took_outcome g (ground (input.Took l n)) K q l n (life l K) refl
outcome g input.Tick H K q = plainly (λ t. tick_brought g (ground input.Tick) t K q)
outcome g (input.Do c) H K q = command_outcome g (ground (input.Do c)) K q c (λ e. e)
outcome g input.End H K q = stop_outcome g (ground input.End) K q refl

-- ---- what each mark of an entry has

module _ (g : Config) (i : Input) (H K : List Mark) (q : IsProper K) where
  abbrev all : Each (Brought g (ground i) true) (at_input g i H K) K
  all = all_brought (outcome g i H K q)

  pub input_allowed : Allowed (at_input g i H K) K
  input_allowed = allowed g (ground i) true (at_input g i H K) K all

  pub input_sound : is_end i ≡ false → AreOthers g K → AreSound g (at_input g i H K) K
  input_sound on others = sound g (ground i) true on (at_input g i H K) K others all

  pub input_fits : CanBe g → is_end i ≡ false → HasRoom g K → AllFit g (at_input g i H K) K
  input_fits can on room = fit g (ground i) true on can (at_input g i H K) K q room all

  pub input_quiet : (d : ℕ) → is_of d i ≡ false → AreQuiet d (at_input g i H K)
  input_quiet d far = quiet g (ground i) true d far (at_input g i H K) K all
