use Rattle.std.proofs.Common.{◌≡◌, take}
use Rattle.zre_net.proofs.running.rope.share_all.Given as goal

abbrev pub invariant-loop-part : goal.invariant-loop-part
invariant-loop-part l = l.now ≡ take l.part-index l.parts
