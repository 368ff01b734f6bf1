use Rattle.std.proofs.Common.{◌≡◌}
use Rattle.zre_actor.specs.Passes.{IsCallerOf, ended}
use Rattle.zre_tests.proofs.callers.put_again.Given as goal

abbrev pub invariant-loop : goal.invariant-loop
invariant-loop g l = IsCallerOf l.pipes l.pass × (ended l.pass ≡ ended l.fn.pass)
