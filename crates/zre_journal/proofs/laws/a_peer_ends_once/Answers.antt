use Rattle.zre_journal.proofs.LawsOfChronicles.{ends_once}
use Rattle.zre_journal.proofs.laws.a_peer_ends_once.Goals as goal

pub returns : goal.returns
returns c = λ g J. ends_once g J
