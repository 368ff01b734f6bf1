use Rattle.std.proofs.Common.{length}
use Rattle.zre_capture.specs.Left.{left}
use Rattle.zre_commands.specs.exercise.Counted.{Takes}
use Rattle.zre_commands.proofs.exercise.run.CountingNode.take_messages.Given as goal

abbrev pub invariant-messages : goal.invariant-messages
invariant-messages l = Takes (left l.fn.exercise) (left l.exercise) l.fn.self l.self

abbrev pub decreases-messages : goal.decreases-messages
decreases-messages l = length (left l.exercise)
