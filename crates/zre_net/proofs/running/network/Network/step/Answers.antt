use Rattle.std.proofs.Common.{◌++◌, ◌∙◌, ap, refl}
use Rattle.std.specs.List.{filter_map}
use Rattle.zre_values.proofs.AnswersThatAreOk.{on_ok}
use Rattle.zre_net.specs.Rows.{sent_in, way_in}
use Rattle.zre_net.proofs.ListsCountedFromOne.{at_place}
use Rattle.zre_net.proofs.NodesAfterEntry.{nodes_more}
use Rattle.zre_net.proofs.running.network.Network.step.Goals as goal

pub returns-clause-nodes : goal.returns-clause-nodes
returns-clause-nodes c = λ H m a nodes still found slight. on_ok c.tell.result c.tell.ensures (λ said.
    nodes_more H m still a c.args.start c.args.at c.args.input c.args.self.now _ nodes found slight (record {
      place = c.in-Some.place;
      under = c.in-Some.ensures.place.0;
      was = c.index_mut.result.now;
      now = c.take_turn.new.started;
      took = c.in_ok-turn.turn;
      before = at_place c.args.self.now.started.items _ c.in-Some.place _ _ c.as_slice.ensures.value c.in-Some.ensures.place.1 c.index_mut.ensures.value;
      written = refl;
      turned = c.in_ok-turn.ensures.turned;
      stays = c.in_ok-turn.ensures.stays;
      queued = c.in-Ok.ensures;
      beacons = c.in-Ok-send_all.ensures ∙ ap (λ xs. c.args.self.now.beacons ++ filter_map (sent_in c.in_ok-turn.turn.host) xs) c.as_slice-2.ensures;
      links = c.in-Ok-connect_all.ensures ∙ ap (λ xs. c.args.self.now.links ++ filter_map (way_in c.args.start) xs) c.as_slice-3.ensures;
      said = said;
      handed = refl;
      running = refl;
      owners = refl;
    }))
