-- Messages that are drawn from a ledger.
use Rattle.std.proofs.Common.{◌≡◌, ◌≢◌, ℕ, ◌+◌, ◌%◌, ◌<◌, Bool, true, false, cond, not, eqb, List, [], ◌∷◌, ◌++◌, length, take, Some, refl, sym, ap, ◌∙◌, subst, arith, eq-eqb}
use Rattle.std.proofs.lemmas.Bool.{ne_eqb}
use Rattle.zre_outside.specs.declared.entry.Entry.{Entry}
use Rattle.zre_msg.specs.declared.message.Message.{Message}
use Rattle.zre_peer.specs.declared.causes.Cause.TheVariants as cause
use Rattle.zre_peer.specs.Ledger.{IsNumbered, IsPicked, IsNear, ArePicked}
use Rattle.zre_peer.specs.Runs.{due, is_hello, told}
use Rattle.zre_peer.specs.Views.{view_of, is_small}
use Rattle.zre_peer.proofs.RunsOfNumberedLists.{apart, number_at, in_turn}
use Rattle.zre_values.specs.declared.settings.Settings.{Settings as Config}
use Rattle.zre_journal.specs.Arrivals.{answer_to, at_message}
use Rattle.zre_journal.specs.Chronicle.{Mark, Counts, Ends}
use Rattle.zre_journal.specs.Connections.{runs}
use Rattle.zre_journal.specs.Events.{chronicle, events}
use Rattle.std.specs.List.{range_with_len}
use Rattle.zre_journal.specs.Laws.{counted_on, ShowsItsMessages}
use Rattle.zre_journal.specs.Ledger.{Ledger, IsDrawn, IsWithinWindow, begun_on, KeepsLedger, cause_of_another, IsJudged}
use Rattle.zre_journal.specs.Peers.{counted}
use Rattle.zre_journal.proofs.LawsOfChronicles.{shows_messages}
use Rattle.zre_journal.proofs.RunsOnOctets.{runs_on_octets}
use Rattle.zre_journal.proofs.EventsFollowMessages.{follows_messages}

-- the first of what came is picked where all of it is
pub front_picked : (sent : List Message) (picks : List ℕ) (ms rest : List Message) → ArePicked sent picks (ms ++ rest) → ArePicked sent picks ms
front_picked sent picks [] rest p = tt
front_picked sent [] (m ∷ ms) rest p = absurd p
front_picked sent (pick ∷ picks) (m ∷ ms) rest p = (p.0, front_picked sent picks ms rest p.1)

pub keeps_ledger : (g : Config) (journal : List Entry) (b : Ledger) → IsDrawn g b (chronicle g journal) → IsWithinWindow b (chronicle g journal) → KeepsLedger b (events g journal) (chronicle g journal)
keeps_ledger g journal b drawn within = record {
  are_first = λ c. sym (first c).1;
  in_turn = λ c. (first c).0;
  shows = λ c l k r. shown.shows c l k r ∙ ap view_of (sym (first c).1);
  tells = λ c l v k r. follows_messages g journal c l v k r ∙ ap (told v.id) (sym (first c).1);
}
  where
    H : List Mark
    H = chronicle g journal

    shown : ShowsItsMessages H
    shown = shows_messages g journal

    first : (c : ℕ) → (take (length (counted_on c H)) (b.picks c) ≡ range_with_len 1 (length (counted_on c H))) × (begun_on b c H ≡ counted_on c H)
    first c =
        let front = (runs_on_octets g journal).is_front c in
        let picked = front_picked (b.sent c) (b.picks c) (counted_on c H) front.0 (subst (ArePicked (b.sent c) (b.picks c)) front.1 (drawn.are_picked c)) in
        in_turn (b.sent c) [] 0 (b.picks c) (counted_on c H) refl (drawn.are_numbered c) picked (within c) (shown.are_ordered c)

pub is_judged : (g : Config) (sent : List Message) (c l pick : ℕ) (m : Message) (K : List Mark) → IsNumbered sent → IsPicked sent pick m → runs c K ≡ Some l → 0 < length (counted l K) → IsNear (length (counted l K)) pick → IsJudged g c l pick m K
is_judged g sent c l pick m K numbered picked run some near = record { accepted = accepted; too_much = too_much; another = another }
  where
    n : ℕ
    n = length (counted l K)

    said : (is_hello m.body ≡ eqb pick 1) × (m.sequence ≡ pick % 65536)
    said = number_at sent pick m numbered picked

    view : Bool
    view = is_small (view_of (counted l K ++ m ∷ []))

    counts : List Mark
    counts = Counts c l m ∷ answer_to g l m.body K

    -- what the tests come to, by their answers
    judged : (h s v : Bool) → is_hello m.body ≡ h → eqb m.sequence (due (counted l K)) ≡ s → view ≡ v
        → at_message g c (runs c K) m K ≡ cond h (Ends l cause.Hello ∷ []) (cond (not s) (Ends l (cause.Order (due (counted l K)) m.sequence) ∷ []) (cond (not v) (Ends l cause.Limit ∷ []) counts))
    judged h s v e f k =
        ap (λ o. at_message g c o m K) run
        ∙ ap (λ x. cond x (Ends l cause.Hello ∷ []) (cond (not (eqb m.sequence (due (counted l K)))) (Ends l (cause.Order (due (counted l K)) m.sequence) ∷ []) (cond (not view) (Ends l cause.Limit ∷ []) counts))) e
        ∙ ap (λ x. cond h (Ends l cause.Hello ∷ []) (cond (not x) (Ends l (cause.Order (due (counted l K)) m.sequence) ∷ []) (cond (not view) (Ends l cause.Limit ∷ []) counts))) f
        ∙ ap (λ x. cond h (Ends l cause.Hello ∷ []) (cond (not s) (Ends l (cause.Order (due (counted l K)) m.sequence) ∷ []) (cond (not x) (Ends l cause.Limit ∷ []) counts))) k

    later : pick ≡ n + 1 → is_hello m.body ≡ false
    later is = said.0 ∙ ne_eqb pick 1 (λ z. omega (arith, is, z, some))

    number : pick ≡ n + 1 → eqb m.sequence (due (counted l K)) ≡ true
    number is = eq-eqb m.sequence (due (counted l K)) (said.1 ∙ ap (λ k. k % 65536) is)

    accepted : pick ≡ n + 1 → view ≡ true → at_message g c (runs c K) m K ≡ counts
    accepted is small = judged false true true (later is) (number is) small

    too_much : pick ≡ n + 1 → view ≡ false → at_message g c (runs c K) m K ≡ Ends l cause.Limit ∷ []
    too_much is small = judged false true false (later is) (number is) small

    another : pick ≢ n + 1 → at_message g c (runs c K) m K ≡ Ends l (cause_of_another n pick) ∷ []
    another ne = by (eqb pick 1) refl
      where
        by : (h : Bool) → eqb pick 1 ≡ h → at_message g c (runs c K) m K ≡ Ends l (cause_of_another n pick) ∷ []
        by true e =
            judged true (eqb m.sequence (due (counted l K))) view (said.0 ∙ e) refl refl
            ∙ ap (λ x. Ends l (cond x cause.Hello (cause.Order ((n + 1) % 65536) (pick % 65536))) ∷ []) (sym e)
        by false e =
            judged false false view (said.0 ∙ e) (ne_eqb m.sequence (due (counted l K)) (λ z. apart pick (n + 1) ne near.after near.before (sym said.1 ∙ z))) refl
            ∙ ap (λ k. Ends l (cause.Order (due (counted l K)) k) ∷ []) said.1
            ∙ ap (λ x. Ends l (cond x cause.Hello (cause.Order ((n + 1) % 65536) (pick % 65536))) ∷ []) (sym e)
