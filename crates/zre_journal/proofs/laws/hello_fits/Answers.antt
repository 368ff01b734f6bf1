use Rattle.zre_journal.proofs.HeldIsBounded.{introduced}
use Rattle.zre_journal.proofs.laws.hello_fits.Goals as goal

pub returns : goal.returns
returns c = λ g J can. introduced g can J
