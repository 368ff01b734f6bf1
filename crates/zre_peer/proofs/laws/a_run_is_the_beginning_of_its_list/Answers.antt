use Rattle.std.proofs.Common.{[], refl}
use Rattle.zre_peer.proofs.RunsOfNumberedLists.{in_turn}
use Rattle.zre_peer.proofs.laws.a_run_is_the_beginning_of_its_list.Goals as goal

pub returns : goal.returns
returns c = λ sent picks ms numbered picked near order. in_turn sent [] 0 picks ms refl numbered picked near order
