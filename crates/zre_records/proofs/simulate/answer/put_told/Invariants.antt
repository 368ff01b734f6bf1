use Rattle.std.proofs.Common.{◌≤◌}
use Rattle.zre_records.proofs.simulate.GatheredLines.{Came}
use Rattle.zre_records.proofs.simulate.answer.put_told.Given as goal

abbrev pub invariant-loop-one : goal.invariant-loop-one
invariant-loop-one g l = record {
  came : Came l.fn.text l.text (g.O.Sink.written l.fn.out) (g.O.Sink.written l.out) l.told l.one-index;
  later : g.O.Sink.faults l.fn.out ≤ g.O.Sink.faults l.out;
}
