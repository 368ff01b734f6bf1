use Rattle.zre_node.specs.Ticks.{probes}
use Rattle.zre_node.proofs.MarksAfterMarks.{one_more_link, all_links}
use Rattle.zre_node.proofs.TicksOfTables.{entered_at}
use Rattle.zre_node.proofs.tables.Tables.probe_all.Goals as goal

pub loop-link-preserved : goal.loop-link-preserved
loop-link-preserved c = λ g K h k. let so_far = c.loop-link.invariant g K h k in
    one_more_link g (probes g) c.args.links.now c.loop-link.link-index K c.loop-link.self c.probe.new.self c.args.out.now c.loop-link.out c.probe.new.out c.loop-link-test.true so_far
    (c.in_ok-probe.ensures g _ so_far.holds (entered_at g c.args.links.now K c.loop-link.link-index c.loop-link-test.true k))

pub returns : goal.returns
returns c = λ g K h k. all_links g (probes g) c.args.links.now c.loop-link.link-index K c.loop-link.self c.args.out.now c.loop-link.out c.loop-link-test.false (c.loop-link.invariant g K h k)
