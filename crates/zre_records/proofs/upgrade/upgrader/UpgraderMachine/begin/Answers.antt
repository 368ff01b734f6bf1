use Rattle.std.proofs.Common.{List, ℕ, ◌++◌, sym, ap, ◌∙◌}
use Rattle.zre_values.proofs.AnswersThatAreOk.{on_ok}
use Rattle.zre_records.proofs.upgrade.UpgraderFedPiece.{text_nothing}
use Rattle.zre_records.proofs.upgrade.upgrader.UpgraderMachine.begin.Goals as goal

pub returns : goal.returns
returns c = record {
  head = λ _.
      on_ok c.push_head2.result c.push_head2.ensures (λ e. e ∙ ap (λ (t : List ℕ). c.args.out.now ++ t) (sym (text_nothing c.args.self.now.settings)));
}
