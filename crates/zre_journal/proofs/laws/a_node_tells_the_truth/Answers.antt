use Rattle.zre_journal.proofs.TrueOnKnownLinks.{tells_truth}
use Rattle.zre_journal.proofs.laws.a_node_tells_the_truth.Goals as goal

pub returns : goal.returns
returns c = λ g J. tells_truth g J
