-- After the moves of a schedule that are within the grammar, its nodes agree.
use Rattle.std.proofs.Common.{◌≡◌, ℕ, ◌+◌, Bool, true, false, cond, List, [], ◌∷◌, ◌++◌, Some, None, refl, subst}
use Rattle.std.specs.Prelude.{Result, Ok, Err, IfOk, OnOk}
use Rattle.std.specs.List.{AllByRecursion}
use Rattle.std.proofs.lemmas.Bool.{and_parts}
use Rattle.zre_net.specs.declared.moves.Move.{Move}
use Rattle.zre_net.specs.Agreement.{HandsInOrder, IsAgreed}
use Rattle.zre_net.specs.Answer.{bad_move_after, bad_move}
use Rattle.zre_net.specs.Comes.{with_move, history_after, history}
use Rattle.zre_net.specs.Grammar.{may_come, has_room, is_good}
use Rattle.zre_net.specs.History.{Happening}
use Rattle.zre_net.proofs.NodesAgree.{all_agree}
use Rattle.zre_net.proofs.CarriedOctets.{Carries, MayStart}
use Rattle.zre_net.proofs.ConnectionsAfterMoves.{begins, step}

carries_after : (line : ℕ) (ms : List Move) (H : List Happening) → Carries H → AllByRecursion MayStart ms → bad_move_after line ms H ≡ None → Carries (history_after ms H)
carries_after line [] H s f good = s
carries_after line (m ∷ ms) H s f good = by (is_good m H) refl good (λ k z. carries_after (line + 1) ms (with_move m H) k f.1 z)
  where
    by : (t : Bool) → is_good m H ≡ t → cond t (bad_move_after (line + 1) ms (with_move m H)) (Some line) ≡ None → (Carries (with_move m H) → bad_move_after (line + 1) ms (with_move m H) ≡ None → Carries (history_after ms (with_move m H))) → Carries (history_after ms (with_move m H))
    by true e z r = r (step m H s (and_parts (may_come m H) (has_room (with_move m H)) e).0 f.0) z
    by false e z r = absurd (let w : Some line ≡ None = z in cc)

front_good : (line : ℕ) (before later : List Move) (H : List Happening) → bad_move_after line (before ++ later) H ≡ None → bad_move_after line before H ≡ None
front_good line [] later H good = refl
front_good line (m ∷ before) later H good = by (is_good m H) good (front_good (line + 1) before later (with_move m H))
  where
    by : (t : Bool) → cond t (bad_move_after (line + 1) (before ++ later) (with_move m H)) (Some line) ≡ None → (bad_move_after (line + 1) (before ++ later) (with_move m H) ≡ None → bad_move_after (line + 1) before (with_move m H) ≡ None)
        → cond t (bad_move_after (line + 1) before (with_move m H)) (Some line) ≡ None
    by true z r = r z
    by false z r = absurd (let w : Some line ≡ None = z in cc)

all_front : (before later : List Move) → AllByRecursion MayStart (before ++ later) → AllByRecursion MayStart before
all_front [] later a = tt
all_front (m ∷ before) later a = (a.0, all_front before later a.1)

-- what connections carry, after each part of the schedule
carries_before : (s : List Move) → AllByRecursion MayStart s → bad_move s ≡ None → (before later : List Move) → s ≡ before ++ later → Carries (history before)
carries_before s f good before later is =
    carries_after 2 before [] begins (all_front before later (subst (AllByRecursion MayStart) is f)) (front_good 2 before later [] (subst (λ ms. bad_move ms ≡ None) is good))

pub hand_in_order : (s : List Move) → AllByRecursion MayStart s → bad_move s ≡ None → HandsInOrder s
hand_in_order s f good before later is x c e =
    let k = (carries_before s f good before later is).each x c e in
    record { in_order = k.octets; elsewhere = k.elsewhere }

pub are_agreed : (s : List Move) → AllByRecursion MayStart s → bad_move s ≡ None → IsAgreed s
are_agreed s f good before later is near =
    all_agree (history before) (carries_before s f good before later is) near

pub ran_agreed : {T E : Type 0} (r : Result T E) (s : List Move) → AllByRecursion MayStart s → (P : T → Type 0) → IfOk r (λ x. (bad_move s ≡ None) × P x) → OnOk r (IsAgreed s)
ran_agreed (Ok x) s f P p = are_agreed s f p.0
ran_agreed (Err e) s f P p = tt
