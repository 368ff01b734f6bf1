use Rattle.std.proofs.Common.{◌≡◌, ◌-◌, ◌^◌, length, take, min, sum_by}
use Rattle.zre_values.proofs.frames.Frames.total.Given as goal

abbrev pub invariant-loop-frame : goal.invariant-loop-frame
invariant-loop-frame l = l.total ≡ min (sum_by length (take l.frame-index l.frame-items)) (2 ^ 64 - 1)
