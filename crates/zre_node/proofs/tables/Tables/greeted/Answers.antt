use Rattle.std.proofs.Common.{ℕ, List, ◌++◌, [], ◌∷◌, refl, sym, ap, ◌∙◌, append-nil}
use Rattle.zre_outside.specs.declared.act.Act.TheVariants as act
use Rattle.zre_journal.specs.Chronicle.{Greets}
use Rattle.zre_node.specs.declared.effects.Effects.{Effects}
use Rattle.zre_values.proofs.AnswersThatAreOk.{on_ok}
use Rattle.zre_node.proofs.MarksAfterMarks.{did_by}
use Rattle.zre_node.proofs.ReadyOnConnections.{greets}
use Rattle.zre_node.proofs.tables.Tables.greeted.Goals as goal

pub returns : goal.returns
returns c = λ g H h.
    on_ok c.answer.result c.answer.ensures (λ out.
    did_by g (Greets c.args.conn ∷ []) H c.args.self.now c.args.out.now c.answer.new.self (greets g H c.args.self.now h c.args.conn)
    (ap (λ (s : Effects). s.events) out ∙ sym (append-nil c.args.out.now.events))
    (ap (λ (s : Effects). s.acts) out ∙ ap (λ (o : List ℕ). c.args.out.now.acts ++ act.Answer c.args.conn o ∷ []) c.in_ok-ready.ensures)
    (ap (λ (s : Effects). s.pushed) out) (λ l. refl))
