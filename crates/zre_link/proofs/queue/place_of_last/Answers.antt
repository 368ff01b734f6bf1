use Rattle.std.proofs.Common.{arith, ◌-◌}
use Rattle.zre_link.proofs.LastOctets.{begin_in}
use Rattle.zre_link.proofs.queue.place_of_last.Goals as goal

pub returns-then-left-len : goal.returns-then-left-len
returns-then-left-len c =
    begin_in c.args.parts.now.items c.index.result.now (c.parts.first - 1) c.parts.first c.args.count c.parts.left c.len-len.result (omega (arith, c.parts.invariant.0, c.parts-test.true))
    (omega (arith, c.parts-test.true)) c.index.ensures c.len-len.ensures.value (omega (arith, c.if-left-len.true)) c.parts.invariant.1
