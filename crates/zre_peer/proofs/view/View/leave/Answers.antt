use Rattle.zre_peer.proofs.ViewsWithinLimits.{left_is_small}
use Rattle.zre_peer.proofs.view.View.leave.Goals as goal

pub returns-clause-small : goal.returns-clause-small
returns-clause-small c = left_is_small c.args.self.now c.args.group.now c.args.status c.requires
