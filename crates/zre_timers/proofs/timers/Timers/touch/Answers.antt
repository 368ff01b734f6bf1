use Rattle.std.proofs.Common.{sym, ◌∙◌, ap, Some}
use Rattle.zre_timers.proofs.EntriesAsMap.{inserted}
use Rattle.zre_timers.proofs.PairsInBothSets.{Agree-moved, Agree-entered, Agree-stayed, Agree-left_alone}
use Rattle.zre_timers.proofs.timers.Timers.touch.Goals as goal

-- no memory for the key: the pair goes out again
pub invariant_of-self-in_default : goal.invariant_of-self-in_default
invariant_of-self-in_default c =
    Agree-left_alone c.self.inside.moments c.insert-2.new.self c.self.inside.queue c.insert.new.self c.remove.new.self c.args.key c.self.invariant
    c.args.at c.in_ok-insert.ensures.updates.0 c.in_default.ensures.err c.remove.ensures.updates.0 c.in_default.ensures.absent

-- the key had another moment
pub invariant_of-self-then-moment-at : goal.invariant_of-self-then-moment-at
invariant_of-self-then-moment-at c =
    Agree-moved c.self.inside.moments c.insert-2.new.self c.self.inside.queue c.insert.new.self c.remove-then-moment-at.new.self c.args.key c.self.invariant
    c.args.at c.in-Some.moment c.in_ok-insert.ensures.updates.0 c.in-Ok.ensures.updates.0 c.remove-then-moment-at.ensures.updates.0
    (sym c.in-Ok.ensures.old ∙ c.in-Some.is) c.if-moment-at.true c.ranges.key.fits

-- the key had this moment
pub invariant_of-self-else-moment-at : goal.invariant_of-self-else-moment-at
invariant_of-self-else-moment-at c =
    Agree-stayed c.self.inside.moments c.insert-2.new.self c.self.inside.queue c.insert.new.self c.insert.new.self c.args.key c.self.invariant
    c.args.at c.in_ok-insert.ensures.updates.0 c.in-Ok.ensures.updates.0
    (sym c.in-Ok.ensures.old ∙ c.in-Some.is ∙ ap Some c.if-moment-at.false) c.ranges.key.fits

-- the key is new
pub invariant_of-self-in_default-before : goal.invariant_of-self-in_default-before
invariant_of-self-in_default-before c =
    Agree-entered c.self.inside.moments c.insert-2.new.self c.self.inside.queue c.insert.new.self c.insert.new.self c.args.key c.self.invariant
    c.args.at c.in_ok-insert.ensures.updates.0 c.in-Ok.ensures.updates.0
    (sym c.in-Ok.ensures.old ∙ c.in_default-before.is) c.ranges.key.fits

pub returns-then-moment-at-clause-ok : goal.returns-then-moment-at-clause-ok
returns-then-moment-at-clause-ok c = inserted c.self.inside.moments c.insert-2.new.self c.args.self.now c.args.key c.args.at c.self.view_is c.in-Ok.ensures.updates.0

pub returns-else-moment-at-clause-ok : goal.returns-else-moment-at-clause-ok
returns-else-moment-at-clause-ok c = inserted c.self.inside.moments c.insert-2.new.self c.args.self.now c.args.key c.args.at c.self.view_is c.in-Ok.ensures.updates.0

pub returns-in_default-before-clause-ok : goal.returns-in_default-before-clause-ok
returns-in_default-before-clause-ok c = inserted c.self.inside.moments c.insert-2.new.self c.args.self.now c.args.key c.args.at c.self.view_is c.in-Ok.ensures.updates.0
