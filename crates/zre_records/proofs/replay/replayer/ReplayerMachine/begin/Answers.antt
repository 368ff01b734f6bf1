use Rattle.std.proofs.Common.{List, ℕ, ◌++◌, sym, ap, ◌∙◌, append-nil}
use Rattle.zre_records.proofs.replay.ReplayerFedPiece.{text_nothing}
use Rattle.zre_records.proofs.replay.replayer.ReplayerMachine.begin.Goals as goal

pub returns : goal.returns
returns c = record { head = λ _. sym (ap (λ (t : List ℕ). c.args._out.now ++ t) (text_nothing c.args.self.now.config) ∙ append-nil c.args._out.now) }
