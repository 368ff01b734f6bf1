use Rattle.std.proofs.Common.{◌≤◌, length}
use Rattle.zre_net.specs.Running.{HasRun}
use Rattle.zre_net.proofs.MovesInTurn.{Partly}
use Rattle.zre_records.proofs.simulate.LinesOfMoves.{CameOf}
use Rattle.zre_records.proofs.simulate.answer.write_moves.Given as goal

abbrev pub invariant-lines : goal.invariant-lines
invariant-lines g l = record {
  runs : Partly l.fn.moves l.moves (λ came. HasRun came l.network × CameOf l.fn.text l.text (g.O.Sink.written l.fn.out) (g.O.Sink.written l.out) came);
  later : g.O.Sink.faults l.fn.out ≤ g.O.Sink.faults l.out;
}

abbrev pub decreases-lines : goal.decreases-lines
decreases-lines g l = length l.moves
