use Rattle.zre_journal.proofs.SaidOnLinks.{are_readable}
use Rattle.zre_journal.proofs.laws.messages_are_readable.Goals as goal

pub returns : goal.returns
returns c = λ g J l can. are_readable g J can l
