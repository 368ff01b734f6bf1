use Rattle.zre_mailbox.proofs.ArrivalsInOrder.{ready_introduces}
use Rattle.zre_mailbox.proofs.laws.ready_introduces.Goals as goal

pub returns : goal.returns
returns c = ready_introduces
