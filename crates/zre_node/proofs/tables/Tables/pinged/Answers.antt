use Rattle.std.proofs.Common.{ℕ, List, ◌++◌, [], ◌∷◌, refl, sym, ap, ◌∙◌, append-nil}
use Rattle.zre_outside.specs.declared.act.Act.TheVariants as act
use Rattle.zre_journal.specs.Chronicle.{AnswersPing}
use Rattle.zre_node.specs.declared.effects.Effects.{Effects}
use Rattle.zre_values.proofs.AnswersThatAreOk.{on_ok}
use Rattle.zre_node.proofs.MarksAfterMarks.{did_by}
use Rattle.zre_node.proofs.ReadyOnConnections.{pings}
use Rattle.zre_node.proofs.tables.Tables.pinged.Goals as goal

pub returns : goal.returns
returns c = λ g H h.
    on_ok c.answer.result c.answer.ensures (λ out.
    did_by g (AnswersPing c.args.conn c.args.context.now ∷ []) H c.args.self.now c.args.out.now c.answer.new.self (pings g H c.args.self.now h c.args.conn c.args.context.now)
    (ap (λ (s : Effects). s.events) out ∙ sym (append-nil c.args.out.now.events))
    (ap (λ (s : Effects). s.acts) out ∙ ap (λ (o : List ℕ). c.args.out.now.acts ++ act.Answer c.args.conn o ∷ []) c.in_ok-pong.ensures)
    (ap (λ (s : Effects). s.pushed) out) (λ l. refl))
