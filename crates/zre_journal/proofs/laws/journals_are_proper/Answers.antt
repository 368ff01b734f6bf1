use Rattle.zre_journal.proofs.ProperChronicles.{is_proper}
use Rattle.zre_journal.proofs.laws.journals_are_proper.Goals as goal

pub returns : goal.returns
returns c = λ g J. is_proper g J
