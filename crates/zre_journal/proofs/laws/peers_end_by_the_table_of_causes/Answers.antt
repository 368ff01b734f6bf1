use Rattle.zre_journal.proofs.PeersEndByCauses.{ends_by_table}
use Rattle.zre_journal.proofs.laws.peers_end_by_the_table_of_causes.Goals as goal

pub returns : goal.returns
returns c = λ g J. ends_by_table g J
