use Rattle.std.proofs.Common.{ap, ◌∙◌}
use Rattle.zre_net.specs.Rows.{running_at}
use Rattle.zre_net.proofs.FirstNetwork.{nothing_more}
use Rattle.zre_net.proofs.running.network.make_room.Goals as goal

pub room-preserved : goal.room-preserved
room-preserved c = λ node. ap (running_at node) c.in_ok-push.ensures.items ∙ nothing_more node c.room.rows.items ∙ c.room.invariant node
