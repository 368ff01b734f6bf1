use Rattle.zre_peer.proofs.FirstMessages.{first_accepts}
use Rattle.zre_peer.proofs.peer_run.first.Goals as goal

pub returns-clause-ok : goal.returns-clause-ok
returns-clause-ok c =
    let v = c.in_ok-view.ensures.ok in
    first_accepts c.args.id c.args.message.now c.in_ok-view.view c.args.events.now c.tell_hello.new.events v.0 (v.1, v.2, v.3) c.in_ok-tell_hello.ensures
