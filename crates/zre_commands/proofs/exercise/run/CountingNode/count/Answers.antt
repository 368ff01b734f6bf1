use Rattle.std.proofs.Common.{List, ◌+◌, ◌++◌, refl, ap, ◌∙◌}
use Rattle.zre_peer.specs.declared.event.Event.{Event}
use Rattle.zre_values.proofs.AnswersThatAreOk.{on_ok}
use Rattle.zre_commands.specs.exercise.Counts.{tally, with_entry}
use Rattle.zre_commands.proofs.exercise.run.CountingNode.count.Goals as goal

pub returns : goal.returns
returns c = λ n before so_far.
    on_ok c.count_events.result (c.count_events.ensures (n + 1) before (c.in_ok-count_entry.ensures ∙ ap with_entry so_far))
    (λ p. (p ∙ ap (λ (es : List Event). tally (n + 1) (before ++ es)) c.as_slice.ensures, refl))
