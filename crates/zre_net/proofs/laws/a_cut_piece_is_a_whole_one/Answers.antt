use Rattle.zre_net.proofs.OnePiece.{stands_for_whole}
use Rattle.zre_net.proofs.laws.a_cut_piece_is_a_whole_one.Goals as goal

pub returns : goal.returns
returns c = stands_for_whole
