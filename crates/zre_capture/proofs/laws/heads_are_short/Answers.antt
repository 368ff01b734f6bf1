use Rattle.zre_capture.proofs.HeadShort.{head-short}
use Rattle.zre_capture.proofs.laws.heads_are_short.Goals as goal

pub returns : goal.returns
returns c = head-short
