use Rattle.zre_shared.proofs.FramesOfWrites.{write_of-text}
use Rattle.zre_shared.proofs.laws.writes_are_read.Goals as goal

pub returns : goal.returns
returns c = λ w is. write_of-text w is
