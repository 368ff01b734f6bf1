use Rattle.zre_capture.proofs.OctetsOfDraws.{Drawing}
use Rattle.zre_capture.proofs.draws.push_drawn.Given as goal

abbrev pub invariant-draws : goal.invariant-draws
invariant-draws l = Drawing l.left l.x l.fn.count l.fn.from l.out l.fn.out

abbrev pub decreases-draws : goal.decreases-draws
decreases-draws l = l.left
