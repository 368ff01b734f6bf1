use Rattle.zre_net.specs.Rows.{way_in}
use Rattle.zre_net.proofs.NodesAfterEntry.{one_more}
use Rattle.zre_net.proofs.running.steps.connect_all.Goals as goal

pub loop-act-preserved : goal.loop-act-preserved
loop-act-preserved c = one_more (way_in c.args.start) c.args.links.now c.loop-act.links _ c.args.acts.now c.loop-act.act-index c.act-item.result c.loop-act-test.true c.act-item.is c.loop-act.invariant c.in_ok-connect.ensures
