use Rattle.zre_peer.specs.declared.causes.CloseWhy.TheVariants as close
use Rattle.zre_journal.specs.Chronicle.{Closes}
use Rattle.zre_node.proofs.MarksAfterMarks.{one_more, all_done}
use Rattle.zre_node.proofs.TicksOfTables.{idle_at}
use Rattle.zre_node.proofs.tables.Tables.close_all.Goals as goal

pub loop-conn-preserved : goal.loop-conn-preserved
loop-conn-preserved c = λ g H h k. let so_far = c.loop-conn.invariant g H h k in
    one_more g (λ n. Closes n close.Timeout) c.args.conns.now c.loop-conn.conn-index H c.loop-conn.self c.close.new.self c.args.out.now c.loop-conn.out c.close.new.out c.loop-conn-test.true so_far
    (c.in_ok-close.ensures g _ so_far.holds (idle_at close.Timeout c.args.conns.now H c.loop-conn.conn-index c.loop-conn-test.true k))

pub returns : goal.returns
returns c = λ g H h k. all_done g (λ n. Closes n close.Timeout) c.args.conns.now c.loop-conn.conn-index H c.loop-conn.self c.args.out.now c.loop-conn.out c.loop-conn-test.false (c.loop-conn.invariant g H h k)
