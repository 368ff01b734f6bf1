use Rattle.zre_shared.proofs.FramesOfWrites.{write_of-some}
use Rattle.zre_shared.proofs.laws.frames_are_written.Goals as goal

pub returns : goal.returns
returns c = λ frame w e. let h = write_of-some frame w e in (h.is, h.text)
