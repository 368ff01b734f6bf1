use Rattle.std.proofs.Common.{[], false}
use Rattle.zre_node.proofs.peers.births.link_with.Goals as goal

pub returns-in-Ok : goal.returns-in-Ok
returns-in-Ok c = (c.in-Ok.ensures.ok c.args.own [] false [] 0 c.in_ok-link.ensures).1
