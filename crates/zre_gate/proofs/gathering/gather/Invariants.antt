use Rattle.std.proofs.Common.{◌≡◌, ◌++◌, map, take, length, vec_len, Some}
use Rattle.std.specs.Prelude.{vec_capacity}
use Rattle.std.specs.Vec.Iter.{into_iter_items}
use Rattle.zre_actor.specs.Passes.{IsCallerOf}
use Rattle.zre_gate.specs.Clients.{seen_client}
use Rattle.zre_gate.specs.Gathering.{Gathers}
use Rattle.zre_gate.specs.ClientLists.{ClientList}
use Rattle.zre_gate.proofs.gathering.gather.Given as goal

abbrev pub invariant-loop-line : goal.invariant-loop-line
invariant-loop-line g l = record {
  pipes : IsCallerOf l.pipes l.gathered.pass;
  rest : l.fn.lines.items ≡ l.yielded ++ into_iter_items l.line-iterator;
  place : l.place ≡ length l.yielded;
  capacity : (vec_len l.gathered.clients ≡ l.place) × (vec_capacity l.gathered.clients ≡ vec_capacity l.fn.clients);
  came : (there : ClientList) → g.B.GateName.client_list ≡ Some there → ∥ Gathers there.limit (take l.place there.new_clients) (map (seen_client g.C.Source.left g.C.Source.taken g.C.Source.faults g.C.Source.refused) l.gathered.clients.items) l.fn.pass l.gathered.pass l.gathered.status l.gathered.over ∥₁;
}
