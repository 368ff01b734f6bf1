use Rattle.std.proofs.Common.{◌≡◌, ◌++◌, length}
use Rattle.zre_values.specs.Framing.{frames}
use Rattle.zre_msg.proofs.queueing.push_frames.Given as goal

abbrev pub invariant-frames : goal.invariant-frames
invariant-frames l = l.out ++ frames l.rest ≡ l.initial.out ++ frames l.bodies

abbrev pub decreases-frames : goal.decreases-frames
decreases-frames l = length l.rest
