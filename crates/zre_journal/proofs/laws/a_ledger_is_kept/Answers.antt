use Rattle.zre_journal.proofs.MessagesOfLedgers.{keeps_ledger}
use Rattle.zre_journal.proofs.laws.a_ledger_is_kept.Goals as goal

pub returns : goal.returns
returns c = λ g J b drawn within. keeps_ledger g J b drawn within
