use Rattle.std.proofs.Common.{List, ℕ, ◌<◌, slice_index_or}
use Rattle.zre_capture.specs.Lines.{IsOctets}
use Rattle.zre_actor.proofs.values.are_frames.Given as goal

abbrev pub invariant-loop-frame : goal.invariant-loop-frame
invariant-loop-frame l = (k : ℕ) (d : List ℕ) → k < l.frame-index → IsOctets (slice_index_or l.frame-items k d)
