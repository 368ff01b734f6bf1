use Rattle.std.proofs.Common.{◌≤◌}
use Rattle.zre_shared.proofs.LinesWritten.{HasCome}
use Rattle.zre_shared.proofs.replica.Replica.write_lines.Given as goal

abbrev pub invariant-loop-write : goal.invariant-loop-write
invariant-loop-write g l = record {
  came : HasCome l.fn.gathered l.gathered (g.O.Sink.written l.fn.out) (g.O.Sink.written l.out) l.self.writes l.write-iterator;
  later : g.O.Sink.faults l.fn.out ≤ g.O.Sink.faults l.out;
}
