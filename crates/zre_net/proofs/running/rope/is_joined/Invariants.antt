use Rattle.std.proofs.Common.{◌≡◌, ◌++◌, take}
use Rattle.zre_net.specs.Lists.{joined}
use Rattle.zre_net.proofs.running.rope.is_joined.Given as goal

abbrev pub invariant-loop-part : goal.invariant-loop-part
invariant-loop-part l = joined (take l.part-index l.parts) ++ l.rest ≡ l.octets
