use Rattle.std.proofs.Common.{◌≡◌, length}
use Rattle.zre_net.specs.Running.{Goes}
use Rattle.zre_net.specs.Said.{said}
use Rattle.zre_net.proofs.MovesInTurn.{Partly}
use Rattle.zre_net.proofs.running.schedule.run.Given as goal

abbrev pub invariant-lines : goal.invariant-lines
invariant-lines l = Partly l.fn.moves l.moves (λ came. Goes came l.line l.network × (l.said ≡ said came))

abbrev pub decreases-lines : goal.decreases-lines
decreases-lines l = length l.moves
