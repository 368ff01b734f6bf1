use Rattle.std.proofs.Common.{◌≡◌, None}
use Rattle.zre_actor.specs.Passes.{IsTakerOf, last_of}
use Rattle.zre_tests.proofs.callers.take_all.Given as goal

abbrev pub invariant-loop : goal.invariant-loop
invariant-loop g l = IsTakerOf l.pipes l.taker × (last_of l.taker ≡ None)
