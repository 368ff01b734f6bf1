use Rattle.std.proofs.Common.{[], ◌∷◌, refl, ap}
use Rattle.zre_journal.specs.Chronicle.{Closes}
use Rattle.zre_node.specs.declared.effects.Effects.{Effects}
use Rattle.zre_values.proofs.AnswersThatAreOk.{on_ok}
use Rattle.zre_node.proofs.MarksAfterMarks.{did_by}
use Rattle.zre_node.proofs.ConnectionsComeAndGo.{closed}
use Rattle.zre_node.proofs.tables.Tables.close.Goals as goal

pub returns : goal.returns
returns c = λ g H h idle.
    on_ok c.close.result c.close.ensures (λ out.
    did_by g (Closes c.args.conn c.args.why ∷ []) H _ c.args.out.now c.close.new.self (closed g H c.args.self.now h c.args.conn idle c.remove.new.self c.remove.ensures c.args.why)
    (ap (λ (s : Effects). s.events) out) (ap (λ (s : Effects). s.acts) out) (ap (λ (s : Effects). s.pushed) out) (λ l. refl))
