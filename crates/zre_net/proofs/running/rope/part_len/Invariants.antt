use Rattle.std.proofs.Common.{◌≤◌, ◌-◌, length}
use Rattle.zre_net.proofs.running.rope.part_len.Given as goal

abbrev pub invariant-strings : goal.invariant-strings
invariant-strings l = l.count ≤ length l.octets

abbrev pub decreases-strings : goal.decreases-strings
decreases-strings l = length l.octets - l.count
