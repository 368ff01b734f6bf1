use Rattle.zre_mailbox.proofs.ArrivalsInOrder.{in_order}
use Rattle.zre_mailbox.proofs.laws.arrivals_are_in_order.Goals as goal

pub returns : goal.returns
returns c = in_order
