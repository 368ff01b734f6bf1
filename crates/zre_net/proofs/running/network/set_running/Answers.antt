use Rattle.std.proofs.Common.{refl}
use Rattle.zre_net.proofs.FirstNetwork.{runs_then}
use Rattle.zre_net.proofs.running.network.set_running.Goals as goal

pub returns : goal.returns
returns c =
    runs_then c.args.node c.args.start c.args.rows.now.items c.make_room.new.rows.items _ c.make_room.ensures.unchanged c.in_ok-make_room.ensures.there_is_a_place refl
