use Rattle.std.proofs.Common.{sym, ◌∙◌}
use Rattle.zre_capture.specs.Reading.{group_and_frames}
use Rattle.zre_capture.proofs.read.group_and_frames.Goals as goal

pub returns : goal.returns
unfolding group_and_frames
returns c = rw (sym c.in-Some.ensures, sym c.in_ok-value.ensures ∙ c.in-Some-2.is) (c.both.ensures _ c.frames.ensures)
