use Rattle.zre_journal.proofs.NothingLeaks.{leaks_nothing}
use Rattle.zre_journal.proofs.laws.nothing_leaks.Goals as goal

pub returns : goal.returns
returns c = λ g J. leaks_nothing g J
