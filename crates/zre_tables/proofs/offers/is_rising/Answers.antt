use Rattle.std.proofs.Common.{arith}
use Rattle.zre_tables.proofs.OffersByLinks.{rises_more}
use Rattle.zre_tables.proofs.offers.is_rising.Goals as goal

pub loop-i-init : goal.loop-i-init
loop-i-init c = λ k lt. absurd (omega (arith, lt))

pub loop-i-preserved : goal.loop-i-preserved
loop-i-preserved c = rises_more c.args.links.now c.loop-i.i c.loop-i.auto.i c.if-links-i.false c.loop-i.invariant

pub returns : goal.returns
returns c = λ e k lt. c.loop-i.invariant k (omega (arith, lt, c.loop-i-test.false))
