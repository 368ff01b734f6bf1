use Rattle.std.proofs.Common.{sym}
use Rattle.zre_peer.proofs.IndexedNames.{left_front, left_after, left_whole}
use Rattle.zre_peer.proofs.groups.Groups.place_of.Goals as goal

pub returns-in-Some : goal.returns-in-Some
returns-in-Some c = left_front c.args.group.now c.self.inside.few c.self.inside.more c.args.self.now c.in-Some.i c.self.view_is c.in-Some.ensures

pub returns-in_ok-i-in-None : goal.returns-in_ok-i-in-None
returns-in_ok-i-in-None c = left_after c.args.group.now c.self.inside.few c.self.inside.more c.args.self.now c.len.result c.in_ok-i-in-None.i c.self.view_is (sym c.len.ensures) c.in-None.ensures c.in_ok-i-in-None.ensures.place

pub returns-in_err-i-in-None : goal.returns-in_err-i-in-None
returns-in_err-i-in-None c = rw c.from_residual.ensures (left_whole c.args.group.now c.self.inside.few c.self.inside.more c.args.self.now c.self.view_is c.in-None.ensures c.in_err-i-in-None.ensures.place)
