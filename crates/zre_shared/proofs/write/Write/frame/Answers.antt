use Rattle.std.proofs.Common.{ap, ◌∙◌}
use Rattle.std.proofs.lemmas.Result.{IfOk-weaker}
use Rattle.zre_shared.specs.Writes.{write_of}
use Rattle.zre_shared.proofs.FramesOfWrites.{write_of-text}
use Rattle.zre_shared.proofs.write.Write.frame.Goals as goal

pub returns-clause-again : goal.returns-clause-again
returns-clause-again c = IfOk-weaker c.write.result _ _ (λ frame e. ap write_of e ∙ write_of-text c.args.self.now c.requires) c.write.ensures
