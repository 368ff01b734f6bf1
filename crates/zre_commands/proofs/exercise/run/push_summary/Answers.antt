use Rattle.std.proofs.Common.{[], ◌++◌, ap, ◌∙◌}
use Rattle.zre_capture.specs.Exercise.{exercise}
use Rattle.zre_capture.specs.Left.{left}
use Rattle.zre_commands.specs.exercise.Counted.{Counted}
use Rattle.zre_commands.specs.exercise.Settings.{settings}
use Rattle.zre_commands.specs.exercise.Summary.{summary}
use Rattle.zre_commands.specs.declared.exercise.counts.Counts.{Counts}
use Rattle.zre_values.proofs.AnswersThatAreOk.{on_ok}
use Rattle.zre_commands.proofs.exercise.NodeOnJournal.{starts_with, counted_all}
use Rattle.zre_commands.proofs.exercise.run.push_summary.Goals as goal

pub returns-in-Ok : goal.returns-in-Ok
returns-in-Ok c =
    let begun = starts_with c.in_ok-settings.field-0 settings _ c.in_ok-new.ensures c.in_ok-settings.ensures c.new-2.ensures in
    let done : Counted settings (left c.new-exercise.result) c.take_all-taken.new.self = rw c.in-Ok.is at (c.take_all-taken.ensures settings [] begun) in
    on_ok c.push_counts.result c.push_counts.ensures
    (λ p. p ∙ ap (λ (k : Counts). c.args.out.now ++ summary k)
    (counted_all settings (left c.new-exercise.result) (exercise c.args.seed c.args.peers c.args.messages) c.take_all-taken.new.self done c.new-exercise.ensures))
