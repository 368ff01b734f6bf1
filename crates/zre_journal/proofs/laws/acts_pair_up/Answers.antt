use Rattle.zre_journal.proofs.StopsLeaveNothing.{are_paired}
use Rattle.zre_journal.proofs.laws.acts_pair_up.Goals as goal

pub returns : goal.returns
returns c = λ g J. are_paired g J
