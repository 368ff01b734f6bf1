use Rattle.zre_net.proofs.ComputedExamples.{joins_first}
use Rattle.zre_net.proofs.laws.an_agreement_computes.Goals as goal

pub returns : goal.returns
returns c = joins_first
