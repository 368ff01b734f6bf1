use Rattle.zre_node.proofs.ItemsHeard.{one_more_item}
use Rattle.zre_node.proofs.tables.Tables.arrive_all.Goals as goal

pub loop-item-preserved : goal.loop-item-preserved
loop-item-preserved c = λ g K h.
    let so_far = c.loop-item.invariant g K h in
    one_more_item g c.args.conn c.args.items.now c.loop-item.item-index c.item-item.result K c.loop-item.self c.arrive.new.self c.args.out.now c.loop-item.out c.arrive.new.out c.loop-item-test.true c.item-item.is so_far
    (c.in_ok-arrive.ensures g _ so_far.holds)
