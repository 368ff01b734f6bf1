use Rattle.std.proofs.Common.{◌≡◌, length}
use Rattle.std.specs.Prelude.{IfSome}
use Rattle.zre_net.specs.Running.{Goes}
use Rattle.zre_net.specs.Said.{said}
use Rattle.zre_net.proofs.MovesInTurn.{Partly}
use Rattle.zre_records.specs.simulate.Simulate.{told_lines}
use Rattle.zre_records.proofs.simulate.answer.try_moves.Given as goal

abbrev pub invariant-lines : goal.invariant-lines
invariant-lines l = Partly l.fn.moves l.moves (λ came. Goes came l.line l.network × IfSome l.kept (λ text. text ≡ told_lines (said came)))

abbrev pub decreases-lines : goal.decreases-lines
decreases-lines l = length l.moves
