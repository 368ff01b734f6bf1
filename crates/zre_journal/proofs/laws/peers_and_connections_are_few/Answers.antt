use Rattle.zre_journal.proofs.WithinCounts.{are_few}
use Rattle.zre_journal.proofs.laws.peers_and_connections_are_few.Goals as goal

pub returns : goal.returns
returns c = λ g J. are_few g J
