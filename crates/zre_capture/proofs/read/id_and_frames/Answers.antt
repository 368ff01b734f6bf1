use Rattle.std.proofs.Common.{sym}
use Rattle.zre_capture.specs.Reading.{id_and_frames}
use Rattle.zre_capture.proofs.read.id_and_frames.Goals as goal

pub returns : goal.returns
unfolding id_and_frames
returns c = rw (sym c.in-Some.ensures, sym c.in-Some-id.ensures) (c.both.ensures _ c.frames.ensures)
