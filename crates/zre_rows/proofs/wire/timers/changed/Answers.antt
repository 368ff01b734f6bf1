use Rattle.std.proofs.Common.{subst, sym}
use Rattle.zre_timers.specs.Moments.{NoneAfter, NoneAfter-empty}
use Rattle.zre_rows.proofs.wire.timers.changed.Goals as goal

pub loop-touch-init : goal.loop-touch-init
loop-touch-init c = subst (NoneAfter c.args.now) (sym c.new-timers.ensures) (NoneAfter-empty c.args.now)
