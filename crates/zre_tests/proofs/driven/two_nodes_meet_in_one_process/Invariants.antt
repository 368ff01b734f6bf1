use Rattle.std.proofs.Common.{length}
use Rattle.zre_tests.proofs.driven.two_nodes_meet_in_one_process.Given as goal

abbrev pub decreases-moves : goal.decreases-moves
decreases-moves g l = length l.moves
