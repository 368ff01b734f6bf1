use Rattle.zre_journal.proofs.SaidOnLinks.{spoke_truly}
use Rattle.zre_journal.proofs.laws.a_node_spoke_truly.Goals as goal

pub returns : goal.returns
returns c = λ g J can. spoke_truly g J can
