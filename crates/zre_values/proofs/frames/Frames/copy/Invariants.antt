use Rattle.std.proofs.Common.{◌≡◌, ◌++◌, drop}
use Rattle.zre_values.proofs.frames.Frames.copy.Given as goal

abbrev pub invariant-loop-frame : goal.invariant-loop-frame
invariant-loop-frame l = l.copied ++ drop l.frame-index l.frames ≡ l.frames
