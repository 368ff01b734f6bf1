use Rattle.std.proofs.Common.{◌≤◌, ◌++◌, true, false, not, ◌&&◌, length, sym, ap, subst, ◌∙◌, arith}
use Rattle.std.proofs.lemmas.Bool.{eqb-true}
use Rattle.std.specs.Prelude.{is_some}
use Rattle.zre_commands.specs.follow.Follower.{GoesOn}
use Rattle.zre_commands.proofs.follow.FollowFedPiece.{over_fed, over_grows, over_goes, not_spent}
use Rattle.zre_commands.proofs.follow.FollowFedParts.{begins, one_more, rest_left, all_taken, stop_fed}
use Rattle.zre_commands.proofs.follow.follower.FollowerMachine.feed.Goals as goal

pub returns-then-spent-clause-fed : goal.returns-then-spent-clause-fed
returns-then-spent-clause-fed c = λ o h _. over_fed c.args.self.now o c.args.piece.now (sym c.spent.ensures ∙ c.if-spent.true) h

pub returns-then-spent-clause-text : goal.returns-then-spent-clause-text
returns-then-spent-clause-text c = λ o h _. over_grows c.args.self.now o c.args.piece.now c.args.out.now (sym c.spent.ensures ∙ c.if-spent.true) h

pub returns-then-spent-clause-stop : goal.returns-then-spent-clause-stop
returns-then-spent-clause-stop c = λ o h _. over_goes c.args.self.now o c.args.piece.now (sym c.spent.ensures ∙ c.if-spent.true) h

pub returns-then-spent-2-clause-fed : goal.returns-then-spent-2-clause-fed
returns-then-spent-2-clause-fed c = λ o h going. not_spent c.args.self.now o (sym c.spent.ensures ∙ c.if-spent.false) (sym c.spent-2.ensures ∙ c.if-spent-2.true) h going

pub returns-then-spent-2-clause-text : goal.returns-then-spent-2-clause-text
returns-then-spent-2-clause-text c = λ o h going. not_spent c.args.self.now o (sym c.spent.ensures ∙ c.if-spent.false) (sym c.spent-2.ensures ∙ c.if-spent-2.true) h going

pub returns-then-spent-2-clause-stop : goal.returns-then-spent-2-clause-stop
returns-then-spent-2-clause-stop c = λ o h going. not_spent c.args.self.now o (sym c.spent.ensures ∙ c.if-spent.false) (sym c.spent-2.ensures ∙ c.if-spent-2.true) h going

pub loop-rest-init : goal.loop-rest-init
loop-rest-init c = begins c.args.self.now c.args.piece.now c.args.out.now

pub loop-rest-preserved : goal.loop-rest-preserved
loop-rest-preserved c =
    let on : GoesOn true c.loop-rest.self = subst (λ b. GoesOn b c.loop-rest.self) c.if-not-goes_on.false c.goes_on.ensures in
    one_more c.args.self.now c.loop-rest.self c.feed_front.new.self c.args.piece.now c.loop-rest.rest.now c.split_at.result.1.now c.args.out.now c.loop-rest.out c.feed_front.new.out c.in_ok-len.len c.split_at.ensures.back on.0 on.2
    c.loop-rest.invariant c.in_ok-len.ensures.unchanged c.in_ok-len.ensures.fed

pub returns-then-not-goes_on-clause-fed : goal.returns-then-not-goes_on-clause-fed
returns-then-not-goes_on-clause-fed c = λ o h going.
    let ended : GoesOn false c.loop-rest.self = subst (λ b. GoesOn b c.loop-rest.self) c.if-not-goes_on.true c.goes_on.ensures in
    (rest_left c.args.self.now c.loop-rest.self c.args.piece.now c.loop-rest.rest.now c.args.out.now c.loop-rest.out o ended c.loop-rest.invariant h going).0

pub returns-then-not-goes_on-clause-text : goal.returns-then-not-goes_on-clause-text
returns-then-not-goes_on-clause-text c = λ o h going.
    let ended : GoesOn false c.loop-rest.self = subst (λ b. GoesOn b c.loop-rest.self) c.if-not-goes_on.true c.goes_on.ensures in
    (rest_left c.args.self.now c.loop-rest.self c.args.piece.now c.loop-rest.rest.now c.args.out.now c.loop-rest.out o ended c.loop-rest.invariant h going).1

pub returns-then-not-goes_on-clause-stop : goal.returns-then-not-goes_on-clause-stop
returns-then-not-goes_on-clause-stop c = λ o h going.
    let ended : GoesOn false c.loop-rest.self = subst (λ b. GoesOn b c.loop-rest.self) c.if-not-goes_on.true c.goes_on.ensures in
    let k = rest_left c.args.self.now c.loop-rest.self c.args.piece.now c.loop-rest.rest.now c.args.out.now c.loop-rest.out o ended c.loop-rest.invariant h going in
    c.going_after.ensures ∙ ap (λ b. not b && is_some c.loop-rest.self.fault) c.spent-then-not-goes_on.ensures ∙ stop_fed c.loop-rest.self (o ++ c.args.piece.now) k.0

pub returns-clause-fed : goal.returns-clause-fed
returns-clause-fed c = λ o h going.
    let none : length c.loop-rest.rest.now ≤ 0 = omega (arith, eqb-true _ _ (sym c.loop-rest-test.ensures)) in
    (all_taken c.args.self.now c.loop-rest.self c.args.piece.now c.loop-rest.rest.now c.args.out.now c.loop-rest.out o none c.loop-rest.invariant h going).0

pub returns-clause-text : goal.returns-clause-text
returns-clause-text c = λ o h going.
    let none : length c.loop-rest.rest.now ≤ 0 = omega (arith, eqb-true _ _ (sym c.loop-rest-test.ensures)) in
    (all_taken c.args.self.now c.loop-rest.self c.args.piece.now c.loop-rest.rest.now c.args.out.now c.loop-rest.out o none c.loop-rest.invariant h going).1

pub returns-clause-stop : goal.returns-clause-stop
returns-clause-stop c = λ o h going.
    let none : length c.loop-rest.rest.now ≤ 0 = omega (arith, eqb-true _ _ (sym c.loop-rest-test.ensures)) in
    let k = all_taken c.args.self.now c.loop-rest.self c.args.piece.now c.loop-rest.rest.now c.args.out.now c.loop-rest.out o none c.loop-rest.invariant h going in
    c.going_after-2.ensures ∙ ap (λ b. not b && is_some c.loop-rest.self.fault) c.spent-3.ensures ∙ stop_fed c.loop-rest.self (o ++ c.args.piece.now) k.0
