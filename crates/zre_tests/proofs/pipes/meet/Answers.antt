use Rattle.std.proofs.Common.{length, ap, subst, arith}
use Rattle.zre_actor.specs.Passes.{IsActorOf}
use Rattle.zre_tests.proofs.pipes.meet.Goals as goal

pub finish-finished-requires-clause-pipes : goal.finish-finished-requires-clause-pipes
finish-finished-requires-clause-pipes g c =
    let b = c.talk_and_take-callers.ensures.pipes in
    (subst (λ ps. IsActorOf ps c.join-worked.result.pass) c.requires.same c.join-worked.ensures.0, b.0, b.1)

pub finish-finished-requires-clause-back : goal.finish-finished-requires-clause-back
finish-finished-requires-clause-back g c = omega (arith, c.talk_and_take-callers.ensures.many, ap length c.join-worked.ensures.1, c.requires.ready.unused)
