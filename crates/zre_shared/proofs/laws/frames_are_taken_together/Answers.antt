use Rattle.zre_shared.proofs.FramesOneByOne.{taken}
use Rattle.zre_shared.proofs.laws.frames_are_taken_together.Goals as goal

pub returns : goal.returns
returns c = λ id ws frames. taken id ws frames
