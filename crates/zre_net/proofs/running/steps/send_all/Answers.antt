use Rattle.zre_net.specs.Rows.{sent_in}
use Rattle.zre_net.proofs.NodesAfterEntry.{one_more}
use Rattle.zre_net.proofs.running.steps.send_all.Goals as goal

pub loop-act-preserved : goal.loop-act-preserved
loop-act-preserved c = one_more (sent_in c.args.host) c.args.beacons.now c.loop-act.beacons _ c.args.acts.now c.loop-act.act-index c.act-item.result c.loop-act-test.true c.act-item.is c.loop-act.invariant c.in_ok-send.ensures
