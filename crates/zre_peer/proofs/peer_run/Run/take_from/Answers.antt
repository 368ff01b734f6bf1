use Rattle.std.proofs.Common.{[], refl}
use Rattle.zre_peer.proofs.RunsAfterMessages.{in_order-refused}
use Rattle.zre_peer.proofs.peer_run.Run.take_from.Goals as goal

pub returns-in-None-clause-refused : goal.returns-in-None-clause-refused
returns-in-None-clause-refused c = λ ms s ne.
    let m = c.args.message.now in
    let h = c.refuse_hello.ensures.refused ms m s c.in-None.ensures in
    (h.0, in_order-refused [] ms m h.0, h.1, refl)
