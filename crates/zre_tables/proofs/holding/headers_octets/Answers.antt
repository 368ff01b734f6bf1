use Rattle.std.proofs.Common.{ℕ, ◌+◌, List, length, arith}
use Rattle.zre_tables.proofs.SumsOverRows.{sum_next}
use Rattle.zre_tables.proofs.holding.headers_octets.Goals as goal

pub loop-i-preserved : goal.loop-i-preserved
loop-i-preserved c =
    omega (
      arith,
      c.saturating_add.ensures,
      c.saturating_add-sum.ensures,
      c.loop-i.invariant,
      sum_next (λ (h : List ℕ × List ℕ). length h.0 + length h.1) c.args.view.now.headers c.loop-i.i (c.header.result.0.now, c.header.result.1.now) (rw c.headers_len-i-end.ensures at c.loop-i-test.true) c.header.ensures,
    )
