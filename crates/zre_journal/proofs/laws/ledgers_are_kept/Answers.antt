use Rattle.zre_journal.proofs.NearMessages.{keeps_ledgers}
use Rattle.zre_journal.proofs.laws.ledgers_are_kept.Goals as goal

pub returns : goal.returns
returns c = λ g J. keeps_ledgers g J
