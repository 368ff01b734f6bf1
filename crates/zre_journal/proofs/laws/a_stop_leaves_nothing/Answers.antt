use Rattle.zre_journal.proofs.StopsLeaveNothing.{leaves_nothing}
use Rattle.zre_journal.proofs.laws.a_stop_leaves_nothing.Goals as goal

pub returns : goal.returns
returns c = λ g J s. leaves_nothing g J s
