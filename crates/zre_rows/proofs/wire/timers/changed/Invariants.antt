use Rattle.zre_timers.specs.Moments.{NoneAfter}
use Rattle.zre_rows.proofs.wire.timers.changed.Given as goal

abbrev pub invariant-loop-touch : goal.invariant-loop-touch
invariant-loop-touch l = NoneAfter l.now l.timers
