use Rattle.std.proofs.Common.{◌≡◌, ◌++◌, drop}
use Rattle.zre_msg.proofs.further.push_copies.Given as goal

abbrev pub invariant-loop-frame : goal.invariant-loop-frame
invariant-loop-frame l = l.out ++ drop l.frame-index l.frames ≡ l.initial.out ++ l.frames
