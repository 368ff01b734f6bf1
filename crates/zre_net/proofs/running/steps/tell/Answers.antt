use Rattle.zre_net.proofs.NodesAfterEntry.{tell_more}
use Rattle.zre_net.proofs.running.steps.tell.Goals as goal

pub loop-event-preserved : goal.loop-event-preserved
loop-event-preserved c = tell_more c.args.node c.args.said.now c.loop-event.said _ c.loop-event.yielded c.in-Some.event c.loop-event.invariant c.in_ok-push.ensures.ok
