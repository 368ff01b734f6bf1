-- Messages that come near the one due are counted near it.
use Rattle.std.proofs.Common.{◌≡◌, ℕ, zero, suc, ◌+◌, Bool, true, false, cond, not, ◌&&◌, eqb, ltb, List, [], ◌∷◌, ◌++◌, length, take, Option, Some, None, refl, sym, ap, ◌∙◌, arith, subst, eq-eqb, eqb-true}
use Rattle.std.specs.Prelude.{slice_get}
use Rattle.std.specs.List.{AllByRecursion}
use Rattle.std.proofs.lemmas.Bool.{and_parts, not-true}
use Rattle.std.proofs.lemmas.List.{length-append}
use Rattle.zre_values.specs.declared.peer_id.PeerId.{PeerId}
use Rattle.zre_values.specs.declared.endpoint.Endpoint.{Endpoint}
use Rattle.zre_values.specs.declared.limits.TheConstants.{PEERS, CONNECTIONS}
use Rattle.zre_values.specs.Endpoint.{endpoint_in}
use Rattle.zre_outside.specs.declared.entry.Entry.{Entry}
use Rattle.zre_outside.specs.declared.entry.Input.{Input}
use Rattle.zre_outside.specs.declared.entry.Input.TheVariants as input
use Rattle.zre_mailbox.specs.declared.arrival.Arrival.TheVariants as arrival
use Rattle.zre_mailbox.specs.Talk.{Said, Arrived, Fault}
use Rattle.zre_msg.specs.declared.message.Message.{Message}
use Rattle.zre_peer.specs.Ledger.{IsNear, AreNear}
use Rattle.zre_peer.specs.Runs.{is_hello, due}
use Rattle.zre_peer.specs.Views.{view_of, is_small}
use Rattle.zre_peer.specs.declared.causes.Cause.{Cause}
use Rattle.zre_peer.specs.declared.causes.Cause.TheVariants as cause
use Rattle.zre_peer.specs.declared.causes.IgnoreWhy.{IgnoreWhy}
use Rattle.zre_peer.specs.declared.causes.IgnoreWhy.TheVariants as ignore
use Rattle.zre_values.specs.declared.settings.Settings.{Settings as Config}
use Rattle.zre_journal.specs.Arrivals.{at_opened, end_of_run, taken_over, start_unknown, start, at_first, answer_to, at_later, at_message, at_ready, at_said, at_place}
use Rattle.zre_journal.specs.Chronicle.{Mark, Comes, Starts, Counts, Ignores, Ends, after, followed}
use Rattle.zre_journal.specs.Connections.{open_ones, is_open, is_new, identity, runs, is_ignored, is_live, other_with}
use Rattle.zre_journal.specs.Events.{chronicle, events}
use Rattle.zre_journal.specs.Happens.{at_input}
use Rattle.zre_journal.specs.Laws.{counted_on}
use Rattle.zre_journal.specs.Ledger.{Ledger, IsDrawn, IsNearWhereItComes, IsWithinWindow, KeepsLedgers}
use Rattle.zre_journal.specs.Peers.{Life, lives, life_of, births, counted}
use Rattle.zre_journal.specs.Places.{is_piece, IsEntry, Arrives}
use Rattle.zre_journal.specs.Pushes.{birth}
use Rattle.zre_journal.proofs.MarksOfEntries.{all_brought}
use Rattle.zre_journal.proofs.EachMarkOfEntries.{Ground, quiet}
use Rattle.zre_journal.proofs.MessagesOfLedgers.{keeps_ledger}
use Rattle.zre_journal.proofs.NumberedLists.{All-join}
use Rattle.zre_journal.proofs.PlacesInLedgers.{IsMoment, its_moment, is_placed}
use Rattle.zre_journal.proofs.HeardUnchanged.{Quiet, AreQuiet, is_of}
use Rattle.zre_journal.proofs.SaidOnConnections.{unused, place_outcome, input_quiet}
use Rattle.zre_journal.proofs.ProperPeers.{run_is}
use Rattle.zre_journal.proofs.WhenMarksCome.{all_same, choice, all_end, all_taken, all_answer}
use Rattle.zre_journal.proofs.PlaceByPlace.{walk}
use Rattle.zre_journal.proofs.ProperChronicles.{comes_proper}

-- ---- marks that count nothing on a connection

quiet_same : (d : ℕ) (hs K : List Mark) → AreQuiet d hs → counted_on d (after hs K) ≡ counted_on d K
quiet_same d hs K q = all_same (Quiet d) (counted_on d) one hs K q
  where
    one : (h : Mark) (H : List Mark) → Quiet d h → counted_on d (h ∷ H) ≡ counted_on d H
    one (Comes e) H z = absurd z
    one (Starts c l m) H z = ap (λ b. followed (counted_on d H) (cond b (Some m) None)) z
    one (Counts c l m) H z = ap (λ b. followed (counted_on d H) (cond b (Some m) None)) z
    one _ H z = refl

-- marks that count nothing at all
abbrev Mute : Mark → Type 0
Mute (Starts c l m) = ⊥
Mute (Counts c l m) = ⊥
Mute _ = Unit {0}

abbrev AreMute : List Mark → Type 0
AreMute hs = AllByRecursion Mute hs

mute_same : (d : ℕ) (hs K : List Mark) → AreMute hs → counted_on d (after hs K) ≡ counted_on d K
mute_same d hs K q = all_same Mute (counted_on d) one hs K q
  where
    one : (h : Mark) (H : List Mark) → Mute h → counted_on d (h ∷ H) ≡ counted_on d H
    one (Starts c l m) H z = absurd z
    one (Counts c l m) H z = absurd z
    one _ H z = refl

module _ (g : Config) (K : List Mark) where
  mute_ready : (c : ℕ) (p : PeerId) (o : Option PeerId) → AreMute (at_ready g c p o K)
  mute_ready c p None = All-join Mute (taken_over g (other_with p c K) K) _ (all_taken Mute (λ l why. tt) (λ c why. tt) (λ l b. tt) g (other_with p c K) K) (tt, tt)
  mute_ready c p (Some q) = tt

  mute_opened : (c : ℕ) → AreMute (at_opened g c K)
  mute_opened c = choice AreMute (is_new c K) _ _ (λ z. choice AreMute (ltb (length (open_ones K)) CONNECTIONS) _ _ (λ y. (tt, tt)) (λ y. (tt, tt))) (λ z. tt)

-- ---- near

near_one : (picks : List ℕ) → AreNear 0 (take 1 picks)
near_one [] = tt
near_one (p ∷ picks) = ((λ z. absurd (omega (arith, z))), tt)

near_more : (picks : List ℕ) (i n pick : ℕ) → AreNear i (take n picks) → slice_get picks n ≡ Some pick → IsNear (i + n) pick → AreNear i (take (suc n) picks)
near_more [] i n pick a s near = tt
near_more (p ∷ picks) i zero pick a s near =
    let z : p ≡ pick = cc in
    let none : i + zero ≡ i = omega arith in
    ((λ some. subst (IsNear i) (sym z) (subst (λ k. IsNear k pick) none near)), tt)
near_more (p ∷ picks) i (suc n) pick a s near = (a.0, near_more picks (i + 1) n pick a.1 s (subst (λ k. IsNear k pick) (omega arith) near))

-- ---- place by place

module _ (g : Config) (J : List Entry) (b : Ledger) (drawn : IsDrawn g b (chronicle g J)) (near : IsNearWhereItComes g b J) where
  abbrev P : List Mark → Type 0
  P K = (d : ℕ) → AreNear 0 (take (length (counted_on d K)) (b.picks d))

  kept : (d : ℕ) (K L : List Mark) → counted_on d L ≡ counted_on d K → P K → AreNear 0 (take (length (counted_on d L)) (b.picks d))
  kept d K L same p = subst (λ (ms : List Message). AreNear 0 (take (length ms) (b.picks d))) (sym same) (p d)

  -- an entry as a whole
  entry : (earlier : List Entry) (e : Entry) (later : List Entry) → IsEntry g J earlier e later → is_piece e.input ≡ false
      → P (Comes e ∷ chronicle g earlier) → P (after (at_input g e.input (chronicle g earlier) (Comes e ∷ chronicle g earlier)) (Comes e ∷ chronicle g earlier))
  entry earlier e later at not_piece p = λ d. kept d M (after (at_input g e.input H M) M) (by d e.input not_piece) p
    where
      H : List Mark
      H = chronicle g earlier

      M : List Mark
      M = Comes e ∷ H

      far : (d : ℕ) (i : Input) → is_of d i ≡ false → counted_on d (after (at_input g i H M) M) ≡ counted_on d M
      far d i n = quiet_same d (at_input g i H M) M (input_quiet g i H M (comes_proper g earlier e) d n)

      by : (d : ℕ) (i : Input) → is_piece i ≡ false → counted_on d (after (at_input g i H M) M) ≡ counted_on d M
      by d (input.Piece c o) n = absurd (let z : true ≡ false = n in cc)
      by d (input.Opened c) n = mute_same d (at_opened g c M) M (mute_opened g M c)
      by d i n = far d i refl

  -- one thing that is said
  module _ (c : ℕ) (one : Said) (K : List Mark) (a : Arrives g J c one K) (p : P K) where
    it : IsMoment g one K
    it = its_moment g J c one K a

    -- what is counted on c after these marks is near
    abbrev Q : List Mark → Type 0
    Q hs = AreNear 0 (take (length (counted_on c (after hs K))) (b.picks c))

    mute : (hs : List Mark) → AreMute hs → Q hs
    mute hs z = kept c K (after hs K) (mute_same c hs K z) p

    -- a message of a connection that runs nobody
    first : (m : Message) → is_live c K ≡ true → runs c K ≡ None → Q (at_first g c (identity c K) m K)
    first m live none = by (identity c K)
      where
        empty : counted_on c K ≡ []
        empty = it.told.unbegun c (unused c K (not-true (is_ignored c K) (and_parts (is_open c K) (not (is_ignored c K)) live).1) none).1

        ignored : (why : IgnoreWhy) → Q (Ignores c why ∷ [])
        ignored why = mute (Ignores c why ∷ []) (tt, tt)

        starts : (l : ℕ) (L : List Mark) → counted_on c L ≡ [] → AreNear 0 (take (length (counted_on c (Starts c l m ∷ L))) (b.picks c))
        starts l L none_yet =
            let is : counted_on c (Starts c l m ∷ L) ≡ m ∷ [] = ap (λ t. followed (counted_on c L) (cond t (Some m) None)) (eq-eqb c c refl) ∙ ap (λ (ms : List Message). ms ++ m ∷ []) none_yet in
            subst (λ (ms : List Message). AreNear 0 (take (length ms) (b.picks c))) (sym is) (near_one (b.picks c))

        unknown : (p : PeerId) (o : Option Endpoint) → Q (start_unknown g c p m o K)
        unknown p None = ignored ignore.NoEndpoint
        unknown p (Some e) = choice Q (ltb (length (lives K)) PEERS) _ _ (λ z. starts (births K + 1) (after (birth g p e K) K) empty) (λ z. ignored ignore.Full)

        known : (p : PeerId) (o : Option Life) → Q (start g c p m o K)
        known p (Some v) = starts v.link K empty
        known p None = unknown p (endpoint_in (view_of (m ∷ [])).endpoint)

        by : (o : Option PeerId) → Q (at_first g c o m K)
        by None = mute [] tt
        by (Some p) = choice Q (not (is_hello m.body && eqb m.sequence 1)) _ _ (λ z. ignored ignore.NotHello)
            (λ z. choice Q (not (is_small (view_of (m ∷ [])))) _ _ (λ y. ignored ignore.Limit) (λ y. known p (life_of p K)))

    -- a message of a connection that runs a peer
    later : (m : Message) → one ≡ Arrived (arrival.Message m) → (l : ℕ) → runs c K ≡ Some l → Q (at_later g c l m K)
    later m is l run = choice Q (is_hello m.body) _ _ (λ z. ended cause.Hello) (λ z. choice Q (not (eqb m.sequence (due (counted l K)))) _ _ (λ y. ended (cause.Order (due (counted l K)) m.sequence))
        (λ y. choice Q (not (is_small (view_of (counted l K ++ m ∷ [])))) _ _ (λ x. ended cause.Limit) (λ x. counts)))
      where
        ended : (why : Cause) → Q (Ends l why ∷ [])
        ended why = mute (Ends l why ∷ []) (tt, tt)

        arrives : Arrives g J c (Arrived (arrival.Message m)) K
        arrives = subst (λ s. Arrives g J c s K) is a

        same : counted l K ≡ counted_on c K
        same = it.told.same c l (run_is K it.proper c l run)

        counts : Q (Counts c l m ∷ answer_to g l m.body K)
        counts =
            let i = is_placed g J c one K a m is l run b drawn in
            let n = near c l i.pick m K arrives run i.at_its_turn in
            let none : length (counted_on c K) ≡ 0 + length (counted_on c K) = omega arith in
            let more = near_more (b.picks c) 0 (length (counted_on c K)) i.pick (p c) (subst (λ (ms : List Message). slice_get (b.picks c) (length ms) ≡ Some i.pick) same i.at_its_turn)
            (subst (λ k. IsNear k i.pick) none (subst (λ (ms : List Message). IsNear (length ms) i.pick) same n)) in
            let end : counted_on c (after (Counts c l m ∷ answer_to g l m.body K) K) ≡ counted_on c K ++ m ∷ [] = mute_same c (answer_to g l m.body K) (Counts c l m ∷ K) (all_answer Mute (λ l why. tt) (λ c why. tt) (λ l b. tt) g l m.body K) ∙ ap (λ t. followed (counted_on c K) (cond t (Some m) None)) (eq-eqb c c refl) in
            let longer : length (counted_on c (after (Counts c l m ∷ answer_to g l m.body K) K)) ≡ suc (length (counted_on c K)) = omega (arith, ap (length {A = Message}) end, length-append (counted_on c K) (m ∷ [])) in
            subst (λ k. AreNear 0 (take k (b.picks c))) (sym longer) more

    message : (m : Message) → one ≡ Arrived (arrival.Message m) → is_live c K ≡ true → (o : Option ℕ) → runs c K ≡ o → Q (at_message g c o m K)
    message m is live None none = first m live none
    message m is live (Some l) run = later m is l run

    said : is_live c K ≡ true → (s : Said) → one ≡ s → Q (at_said g c s K)
    said live (Arrived arrival.Greeted) is = p c
    said live (Arrived (arrival.Shaken q)) is = mute (at_ready g c q (identity c K) K) (mute_ready g K c q (identity c K))
    said live (Arrived (arrival.Ping t)) is = p c
    said live (Arrived (arrival.Message m)) is = message m is live (runs c K) refl
    said live (Fault f) is = mute (at_said g c (Fault f) K) (All-join Mute (end_of_run g (runs c K) cause.Fault) _ (all_end Mute (λ l why. tt) (λ c why. tt) (λ l b. tt) g (runs c K) cause.Fault) (tt, tt))

    own : Q (at_place g c one K)
    own = choice Q (is_live c K) _ _ (λ live. said live one refl) (λ dead. p c)

    place : P (after (at_place g c one K) K)
    place d = by (eqb d c) refl
      where
        w : Ground
        w = record { of = λ x. eqb x c; stops = false }

        by : (t : Bool) → eqb d c ≡ t → AreNear 0 (take (length (counted_on d (after (at_place g c one K) K))) (b.picks d))
        by true e = subst (λ x. AreNear 0 (take (length (counted_on x (after (at_place g c one K) K))) (b.picks x))) (sym (eqb-true d c e)) own
        by false e =
            kept d K (after (at_place g c one K) K) (quiet_same d (at_place g c one K) K
            (quiet g w true d e (at_place g c one K) K (all_brought (place_outcome g w c (eq-eqb c c refl) one it.may K it.proper)))) p

  pub is_within_window : IsWithinWindow b (chronicle g J)
  is_within_window = walk g J P (λ H e p. p) entry (λ c one K a p. place c one K a p) (λ d. tt)

-- a journal keeps its ledgers
pub keeps_ledgers : (g : Config) (J : List Entry) → KeepsLedgers g J (events g J)
keeps_ledgers g J = λ b drawn near. (keeps_ledger g J b drawn (is_within_window g J b drawn near), λ c l m K a run. is_placed g J c (Arrived (arrival.Message m)) K a m refl l run b drawn)
