use Rattle.zre_journal.specs.Chronicle.{Ends}
use Rattle.zre_node.proofs.MarksAfterMarks.{one_more, all_done, known_at}
use Rattle.zre_node.proofs.RowsOfKnownPeers.{nearly}
use Rattle.zre_node.proofs.tables.Tables.end_all.Goals as goal

pub loop-link-preserved : goal.loop-link-preserved
loop-link-preserved c = λ g H h k. let so_far = c.loop-link.invariant g H h k in
    one_more g (λ l. Ends l c.args.cause) c.args.links.now c.loop-link.link-index H c.loop-link.self c.end.new.self c.args.out.now c.loop-link.out c.end.new.out c.loop-link-test.true so_far
    (c.in_ok-end.ensures g _ (nearly g _ _ _ so_far.holds) (known_at c.args.cause c.args.links.now H c.loop-link.link-index c.loop-link-test.true k))

pub returns : goal.returns
returns c = λ g H h k. all_done g (λ l. Ends l c.args.cause) c.args.links.now c.loop-link.link-index H c.loop-link.self c.args.out.now c.loop-link.out c.loop-link-test.false (c.loop-link.invariant g H h k)
