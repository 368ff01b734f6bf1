use Rattle.std.proofs.Common.{ℕ, List, ◌++◌, take}
use Rattle.zre_records.specs.table.Kept.{Keeps}
use Rattle.zre_records.proofs.table.taking.take_frames.Given as goal

-- those so far were taken
abbrev pub invariant-loop-frame : goal.invariant-loop-frame
invariant-loop-frame l = (fs : List (List ℕ)) → Keeps fs l.fn.replica → Keeps (fs ++ take l.frame-index l.frames) l.replica
