use Rattle.std.proofs.Common.{◌≡◌, ◌++◌, take, flat_map}
use Rattle.zre_audit.specs.Coding.{part}
use Rattle.zre_audit.proofs.coding.push_parts.Given as goal

abbrev pub invariant-loop-frame : goal.invariant-loop-frame
invariant-loop-frame l = l.out ≡ l.fn.out ++ flat_map part (take l.frame-index l.frames)
