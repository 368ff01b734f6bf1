use Rattle.std.proofs.Common.{refl}
use Rattle.zre_net.proofs.ListsCountedFromOne.{at_place}
use Rattle.zre_net.proofs.MovesWithoutEntries.{crash_played, crash_stands}
use Rattle.zre_net.proofs.running.network.Network.crash.Goals as goal

pub returns : goal.returns
returns c = λ H s.
    crash_played H c.args.node c.in-Some.start c.args.self.now _ s c.in-Some.ensures
    (crash_stands H c.args.node c.in-Some.start c.in-Some-place_of.place c.args.self.now _ s c.index_mut.result.now c.stop.new.started c.in-Some-place_of.ensures.place.0 (at_place c.args.self.now.started.items _ c.in-Some-place_of.place _ _ c.as_slice.ensures.value c.in-Some-place_of.ensures.place.1 c.index_mut.ensures.value) c.stop.ensures refl c.in_ok-set_running.ensures refl s.nodes.said refl refl refl refl refl c.in-Some.ensures)
