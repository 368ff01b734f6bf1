use Rattle.std.proofs.Common.{sym, ◌∙◌}
use Rattle.zre_timers.proofs.EntriesAsMap.{removed}
use Rattle.zre_timers.proofs.PairsInBothSets.{Agree-gone}
use Rattle.zre_timers.proofs.timers.Timers.forget.Goals as goal

pub invariant_of-self : goal.invariant_of-self
invariant_of-self c =
    Agree-gone c.self.inside.moments c.remove.new.self c.self.inside.queue c.remove-in-Some.new.self c.remove-in-Some.new.self c.args.key c.self.invariant
    c.in-Some.at c.remove-in-Some.ensures.updates.0 c.remove.ensures.updates.0 (sym c.remove.ensures.value ∙ c.in-Some.is) c.ranges.key.fits

pub returns-in-Some : goal.returns-in-Some
returns-in-Some c = removed c.self.inside.moments c.remove.new.self c.args.self.now c.args.key c.self.view_is c.remove.ensures.updates.0

pub returns-in_default : goal.returns-in_default
returns-in_default c = removed c.self.inside.moments c.remove.new.self c.args.self.now c.args.key c.self.view_is c.remove.ensures.updates.0
