use Rattle.zre_capture.proofs.ReadIsSpelled.{text-entry_of}
use Rattle.zre_capture.proofs.laws.lines_are_written.Goals as goal

pub returns : goal.returns
returns c = text-entry_of
