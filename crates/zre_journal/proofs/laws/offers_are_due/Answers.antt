use Rattle.zre_journal.proofs.OffersAreDue.{entry_due}
use Rattle.zre_journal.proofs.laws.offers_are_due.Goals as goal

pub returns : goal.returns
returns c = λ g J e. entry_due g J e
