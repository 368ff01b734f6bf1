use Rattle.zre_capture.proofs.WholeCaptures.{captured}
use Rattle.zre_capture.proofs.laws.captures_are_read.Goals as goal

pub returns : goal.returns
returns c = captured
