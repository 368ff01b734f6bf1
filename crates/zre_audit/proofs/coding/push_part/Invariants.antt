use Rattle.std.proofs.Common.{◌≡◌, ◌++◌, take, flat_map}
use Rattle.zre_audit.specs.Coding.{escaped}
use Rattle.zre_audit.proofs.coding.push_part.Given as goal

abbrev pub invariant-loop-octet : goal.invariant-loop-octet
invariant-loop-octet l = l.out ≡ l.fn.out ++ flat_map escaped (take l.octet-index l.octets)
