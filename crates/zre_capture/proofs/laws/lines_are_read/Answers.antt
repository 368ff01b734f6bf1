use Rattle.zre_capture.proofs.WrittenIsRead.{entry_of-text}
use Rattle.zre_capture.proofs.laws.lines_are_read.Goals as goal

pub returns : goal.returns
returns c = entry_of-text
