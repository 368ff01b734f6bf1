use Rattle.zre_actor.specs.Passes.{IsCallerOf}
use Rattle.zre_tests.proofs.pipes.put_many.Given as goal

abbrev pub invariant-loop-line : goal.invariant-loop-line
invariant-loop-line g l = IsCallerOf l.pipes l.pass
