use Rattle.zre_peer.proofs.MembersByPlace.{mapped_next}
use Rattle.zre_peer.proofs.hello.tell_hello.Goals as goal

pub loop-i-preserved : goal.loop-i-preserved
loop-i-preserved c = mapped_next _ c.loop-i.events c.push_join.new.events _ c.args.view.now.groups c.loop-i.i c.get.result.now c.get.ensures c.in_ok-push_join.ensures c.loop-i.invariant
