use Rattle.zre_capture.proofs.EntriesLeft.{exercise_begins}
use Rattle.zre_capture.proofs.exercise.Exercise.new.Goals as goal

pub returns : goal.returns
returns c = exercise_begins c.args.peers c.args.seed c.args.messages c.requires.some
