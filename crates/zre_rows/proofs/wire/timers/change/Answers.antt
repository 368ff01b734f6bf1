use Rattle.std.proofs.Common.{subst, sym, arith}
use Rattle.zre_timers.specs.Moments.{NoneAfter, NoneAfter-insert, NoneAfter-remove}
use Rattle.zre_rows.proofs.wire.timers.change.Goals as goal

pub returns-in_default : goal.returns-in_default
returns-in_default c = subst (NoneAfter c.args.now) (sym c.forget.ensures) (NoneAfter-remove _ _ c.args.now c.requires)

pub returns : goal.returns
returns c = subst (NoneAfter c.args.now) (sym c.in-Ok.ensures.ok) (NoneAfter-insert _ _ _ c.args.now c.requires (omega arith))
