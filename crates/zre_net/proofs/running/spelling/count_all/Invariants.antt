use Rattle.std.proofs.Common.{◌≡◌, ◌+◌, length, take}
use Rattle.zre_net.specs.Lists.{joined}
use Rattle.zre_net.proofs.running.spelling.count_all.Given as goal

abbrev pub invariant-loop-part : goal.invariant-loop-part
invariant-loop-part l = l.count ≡ l.besides + length (joined (take l.part-index l.parts))
