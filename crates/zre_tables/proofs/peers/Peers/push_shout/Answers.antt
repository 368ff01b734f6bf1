use Rattle.zre_msg.specs.declared.message.Body.TheVariants.{Shout}
use Rattle.zre_tables.proofs.RowsInOrder.{lies}
use Rattle.zre_tables.proofs.LentRows.{put_or_refused, relinked_agrees}
use Rattle.zre_tables.proofs.peers.Peers.push_shout.Goals as goal

pub returns : goal.returns
returns c =
    let it = lies c.self.inside.rows.all.items c.args.link c.in-Some.at c.index_mut.result.now c.self.invariant.rising c.in-Some.ensures c.index_mut.ensures.value in
    let row = put_or_refused c.args.link c.in-Some.at c.self.inside.rows.all.items c.index_mut.result.now it c.args.self.now c.self.view_is c.push_shout.new.self c.push_shout.result (Shout c.args.group.now c.args.tail.now) c.push_shout.ensures.ok c.push_shout.ensures.refused c.push_shout.ensures.unchanged in
    record { ok = row.0; refused = row.1; unchanged = row.2; missing = row.3 }

pub invariant_of-self : goal.invariant_of-self
invariant_of-self c =
    let it = lies c.self.inside.rows.all.items c.args.link c.in-Some.at c.index_mut.result.now c.self.invariant.rising c.in-Some.ensures c.index_mut.ensures.value in
    relinked_agrees c.args.link c.in-Some.at c.self.inside.rows.all.items c.index_mut.result.now it c.push_shout.new.self _ _ c.self.invariant
