use Rattle.std.proofs.Common.{◌+◌, ◌≤◌, length, ◌++◌}
use Rattle.zre_zmtp.specs.Run.{run_all}
use Rattle.zre_zmtp.specs.Shown.{before_of, left_of, held, Waits}
use Rattle.zre_zmtp.proofs.TurnsOfReaders.{IsAmid}
use Rattle.zre_zmtp.proofs.LooksByTurn.{IsPaidSoFar}
use Rattle.zre_zmtp.proofs.progress.Progress.read.Given as goal

abbrev pub invariant-loop-rest : goal.invariant-loop-rest
invariant-loop-rest g l =
    (Waits l.want (before_of l.fn.self) (left_of l.fn.self)
    → IsAmid l.want l.fn.out l.out (run_all l.want (before_of l.fn.self) (left_of l.fn.self ++ l.piece)) (before_of l.self) (left_of l.self) l.rest)
    × (l.steps + length l.rest ≤ l.fn.steps + length l.piece)
    × IsPaidSoFar l.fn.steps l.steps (held l.fn.self) (held l.self) (length l.piece) (length l.rest)

abbrev pub decreases-loop-rest : goal.decreases-loop-rest
decreases-loop-rest g l = length l.rest
