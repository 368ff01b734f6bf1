use Rattle.std.proofs.Common.{◌≡◌, ◌≤◌, true, length, vec_len}
use Rattle.std.specs.Prelude.{option_map, vec_capacity}
use Rattle.zre_gate.specs.Gate.{with_clients}
use Rattle.zre_gate.proofs.arrivals.take_clients.Given as goal

abbrev pub invariant-each : goal.invariant-each
invariant-each g l = record {
  told : g.D.Desk.told l.desk ≡ option_map (with_clients true l.fn.place l.clients.items) (g.D.Desk.told l.fn.desk);
  many : (length l.clients.items ≡ l.counter) × (vec_len l.clients ≡ l.counter);
  capacity : vec_capacity l.clients ≡ vec_capacity l.fn.clients;
  counts : g.D.Desk.refused l.desk ≡ g.D.Desk.refused l.fn.desk;
  later : g.D.Desk.faults l.fn.desk ≤ g.D.Desk.faults l.desk;
}
