use Rattle.std.proofs.Common.{length, arith}
use Rattle.zre_tables.proofs.SumsOverRows.{sum_next}
use Rattle.zre_tables.proofs.holding.groups_octets.Goals as goal

pub loop-i-preserved : goal.loop-i-preserved
loop-i-preserved c = omega (arith, c.saturating_add-sum.ensures, c.loop-i.invariant, sum_next length c.args.view.now.groups c.loop-i.i c.group.result.now (rw c.groups_len-i-end.ensures at c.loop-i-test.true) c.group.ensures)
