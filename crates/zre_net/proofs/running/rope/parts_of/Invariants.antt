use Rattle.std.proofs.Common.{◌≡◌, ◌≤◌, ◌-◌, ◌++◌, length, drop}
use Rattle.zre_net.specs.Lists.{joined}
use Rattle.zre_net.proofs.running.rope.parts_of.Given as goal

abbrev pub invariant-parts : goal.invariant-parts
invariant-parts l = (l.from ≤ length l.octets) × (joined l.now ++ drop l.from l.octets ≡ l.octets)

abbrev pub decreases-parts : goal.decreases-parts
decreases-parts l = length l.octets - l.from
