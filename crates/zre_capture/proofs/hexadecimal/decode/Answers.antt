use Rattle.std.proofs.Common.{◌+◌, ◌≤◌, length, arith}
use Rattle.zre_capture.proofs.DecodedPairs.{decoded-none, decoded-more, decoded-four, decoded-all}
use Rattle.zre_capture.proofs.hexadecimal.decode.Goals as goal

pub fours-init : goal.fours-init
fours-init c = record { so_far = decoded-none c.args.digits.now c.args.buffer.now c.requires.two; within = omega arith }

pub fours-preserved : goal.fours-preserved
fours-preserved c =
    let before = c.fours.invariant in
    let there : c.fours.i + 4 ≤ length c.fours.buffer = omega (arith, c.fours-test.true, before.within) in
    let s = decoded-four c.args.digits.now c.fours.buffer c.fours.all c.fours.i c.pair-first.result c.pair-second.result c.pair-third.result c.pair-fourth.result before.so_far there c.pair-first.ensures c.pair-second.ensures c.pair-third.ensures c.pair-fourth.ensures in
    record { so_far = s; within = omega (arith, there, s.sized, before.so_far.sized) }

pub pairs-preserved : goal.pairs-preserved
pairs-preserved c = decoded-more c.args.digits.now c.pairs.buffer c.pairs.all c.pairs.i c.pair-octet.result c.pairs.invariant (omega (arith, c.pairs-test.true)) c.pair-octet.ensures

pub returns : goal.returns
returns c = decoded-all c.args.digits.now c.pairs.buffer c.pairs.all c.pairs.i c.pairs.invariant (omega (arith, c.pairs-test.false)) (omega (arith, c.requires.some, c.pairs.auto.buffer))
