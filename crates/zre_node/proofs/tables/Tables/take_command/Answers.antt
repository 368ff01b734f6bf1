use Rattle.std.proofs.Common.{◌∷◌, sym, subst}
use Rattle.zre_outside.specs.declared.entry.Input.{Input}
use Rattle.zre_journal.specs.Chronicle.{Comes}
use Rattle.zre_journal.specs.Happens.{at_input}
use Rattle.zre_node.specs.Stands.{Did}
use Rattle.zre_node.proofs.MarksOfCommands.{command_quiet}
use Rattle.zre_values.proofs.AnswersThatAreOk.{on_ok}
use Rattle.zre_node.proofs.WholeEntries.{took}
use Rattle.zre_node.proofs.tables.Tables.take_command.Goals as goal

pub returns : goal.returns
returns c = λ g H e at_is is goes_on none h.
    let q = command_quiet e c.args.command is in
    let held = c.come.ensures g H e at_is q.1 h in
    let d = subst (λ (i : Input). Did g (at_input g i H (Comes e ∷ H)) (Comes e ∷ H) c.command.new.self c.args.out.now c.command.new.out) (sym is) (c.in_ok-command.ensures g _ goes_on held) in
    on_ok c.offer.result (c.offer.ensures g _ d.holds) (λ o. took g e H c.command.new.self c.args.out.now c.command.new.out c.offer.new.out h.keeps.going q.0 none d o)
