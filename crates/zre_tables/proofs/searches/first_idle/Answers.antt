use Rattle.std.proofs.Common.{◌+◌, drop}
use Rattle.zre_tables.proofs.RowsInOrder.{next_of}
use Rattle.zre_tables.proofs.IdleConnections.{idle_next}
use Rattle.zre_tables.proofs.searches.first_idle.Goals as goal

pub loop-conn-preserved : goal.loop-conn-preserved
loop-conn-preserved c = λ m l a.
    let es = c.args.rows.now.all.items in
    let i = c.loop-conn.conn-index in
    let e = c.loop-conn-item.result in
    let steps = next_of c.deref-conn-items.result.now es i e c.deref-conn-items.ensures.value c.loop-conn-test.true c.loop-conn-item.is in
    idle_next m c.loop-conn.first c.earlier_idle-first.result e.0 e.1 (drop i es) (drop (i + 1) es) es steps c.earlier_idle-first.ensures.before c.earlier_idle-first.ensures.rests c.loop-conn.invariant l a
