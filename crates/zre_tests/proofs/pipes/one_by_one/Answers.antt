use Rattle.std.proofs.Common.{length, ap, arith}
use Rattle.zre_tests.proofs.pipes.one_by_one.Goals as goal

pub finish-finished-requires-clause-back : goal.finish-finished-requires-clause-back
finish-finished-requires-clause-back g c = omega (arith, c.talk-callers.ensures.many, ap length c.work-worked.ensures.pipes.1, c.requires.unused)
