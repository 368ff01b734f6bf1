use Rattle.zre_net.proofs.ComputedExamples.{tells}
use Rattle.zre_net.proofs.laws.an_example_computes.Goals as goal

pub returns : goal.returns
returns c = tells
