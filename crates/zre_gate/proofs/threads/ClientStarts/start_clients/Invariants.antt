use Rattle.std.proofs.Common.{◌≡◌, ◌≤◌, ◌+◌, ◌++◌, List, true, false, length, vec_len}
use Rattle.std.specs.Prelude.{vec_capacity}
use Rattle.std.specs.Vec.Iter.{into_iter_items}
use Rattle.zre_outside.specs.Causes.{Rose}
use Rattle.zre_console.specs.declared.places.CallerArgs.{CallerArgs}
use Rattle.zre_gate.proofs.threads.ClientStarts.start_clients.Given as goal

abbrev pub invariant-loop-input : goal.invariant-loop-input
invariant-loop-input g l = record {
  rest : l.fn.clients.items ≡ l.yielded ++ into_iter_items l.input-iterator;
  place : l.place ≡ length l.yielded;
  all_args : (front : List CallerArgs) × (l.fn.self.all_args.items ≡ front ++ l.self.all_args.items) × (length front ≡ l.place);
  ins : length l.self.ins.items + l.place ≡ length l.fn.clients.items;
  capacity : (vec_len l.client_threads.running ≤ l.place) × (vec_capacity l.client_threads.running ≡ vec_capacity l.fn.running);
  refused : l.client_threads.refused ≡ true → Rose (g.P.Spawner.faults l.fn.spawner) (g.P.Spawner.faults l.spawner);
  counts : l.client_threads.refused ≡ false → g.P.Spawner.faults l.spawner ≡ g.P.Spawner.faults l.fn.spawner;
  later : g.P.Spawner.faults l.fn.spawner ≤ g.P.Spawner.faults l.spawner;
}
