use Rattle.zre_net.proofs.LinksAfterEntry.{one_line}
use Rattle.zre_net.proofs.running.sender.add_lines.Goals as goal

pub loop-act-preserved : goal.loop-act-preserved
loop-act-preserved c = one_line c.args.handshake c.args.lines.now c.loop-act.lines _ c.args.acts.now c.loop-act.act-index c.act-item.result c.loop-act-test.true c.act-item.is c.loop-act.invariant c.in_ok-add_line.ensures
