use Rattle.std.proofs.Common.{[], ◌∷◌, refl, sym, ap, ◌∙◌, append-nil}
use Rattle.zre_journal.specs.Chronicle.{Refuses}
use Rattle.zre_node.specs.declared.effects.Effects.{Effects}
use Rattle.zre_node.proofs.MarksOfCommands.{refused}
use Rattle.zre_values.proofs.AnswersThatAreOk.{on_ok}
use Rattle.zre_node.proofs.MarksAfterMarks.{did_by}
use Rattle.zre_node.proofs.outgoing.commands.decline.Goals as goal

pub returns : goal.returns
returns c = λ g K t h.
    on_ok c.tell.result c.tell.ensures (λ out.
    did_by g (Refuses c.args.why ∷ []) K t c.args.out.now c.tell.new.self (refused g K t h c.args.why)
    (ap (λ (s : Effects). s.events) out) (ap (λ (s : Effects). s.acts) out ∙ sym (append-nil c.args.out.now.acts)) (ap (λ (s : Effects). s.pushed) out) (λ l. refl))
