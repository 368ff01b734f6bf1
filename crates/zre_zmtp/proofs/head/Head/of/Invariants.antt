use Rattle.std.proofs.Common.{◌≡◌, take}
use Rattle.zre_zmtp.proofs.head.Head.of.Given as goal

abbrev pub invariant-loop-octet : goal.invariant-loop-octet
invariant-loop-octet l = l.head ≡ take l.octet-index l.octets
