use Rattle.zre_journal.proofs.StopsAreTold.{told_to_stop}
use Rattle.zre_journal.proofs.laws.a_stop_is_told.Goals as goal

pub returns : goal.returns
returns c = λ g J can stopped. told_to_stop g can J stopped
