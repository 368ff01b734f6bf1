use Rattle.std.proofs.Common.{length}
use Rattle.zre_capture.specs.Left.{left}
use Rattle.zre_commands.specs.exercise.Counted.{Takes}
use Rattle.zre_commands.proofs.exercise.run.CountingNode.take_all.Given as goal

abbrev pub invariant-entries : goal.invariant-entries
invariant-entries l = Takes (left l.fn.exercise) (left l.exercise) l.fn.self l.self

abbrev pub decreases-entries : goal.decreases-entries
decreases-entries l = length (left l.exercise)
