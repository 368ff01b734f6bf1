use Rattle.zre_journal.proofs.ConnectionsIsolated.{isolates}
use Rattle.zre_journal.proofs.laws.connections_are_isolated.Goals as goal

pub returns : goal.returns
returns c = λ g J. isolates g J
