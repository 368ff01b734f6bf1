use Rattle.zre_peer.proofs.RunsOfNumberedLists.{follows}
use Rattle.zre_peer.proofs.laws.the_next_of_a_list_is_taken.Goals as goal

pub returns : goal.returns
returns c = λ sent ms pick m numbered picked near. follows sent ms pick m numbered picked near
