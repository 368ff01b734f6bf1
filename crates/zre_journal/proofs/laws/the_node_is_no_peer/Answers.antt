use Rattle.zre_journal.proofs.StopsLeaveNothing.{no_peer}
use Rattle.zre_journal.proofs.laws.the_node_is_no_peer.Goals as goal

pub returns : goal.returns
returns c = λ g J. no_peer g J
