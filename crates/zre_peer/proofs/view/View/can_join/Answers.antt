use Rattle.std.proofs.Common.{◌∙◌}
use Rattle.zre_peer.proofs.ViewsWithinLimits.{groups_are_few, joined_is_small}
use Rattle.zre_peer.proofs.view.View.can_join.Goals as goal

pub can_add-requires : goal.can_add-requires
can_add-requires c = groups_are_few c.args.self.now c.requires

pub returns : goal.returns
returns c = λ status. c.can_add.ensures ∙ joined_is_small c.args.self.now c.args.group.now status c.requires
