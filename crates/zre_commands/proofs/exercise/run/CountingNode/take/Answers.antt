use Rattle.std.proofs.Common.{length, sym, subst}
use Rattle.zre_journal.specs.Events.{events}
use Rattle.zre_node.specs.declared.node.Node.{Node}
use Rattle.zre_node.specs.Journal.{IsStep}
use Rattle.zre_values.proofs.AnswersThatAreOk.{on_ok}
use Rattle.zre_commands.proofs.exercise.NodeOnJournal.{steps_on}
use Rattle.zre_commands.proofs.exercise.run.CountingNode.take.Goals as goal

pub returns : goal.returns
returns c = λ g J counted.
    let e = c.args.entry in
    let s = c.step_into.new.step in
    on_ok c.count.result (c.count.ensures (length J) (events g J) counted.counts)
    (λ p. steps_on g J e c.count.new.self s (subst (λ (n : Node). IsStep g J e n s) (sym p.1) (c.in_ok-step_into.ensures.steps g J counted.stands)) p.0)
