use Rattle.std.proofs.Common.{sym}
use Rattle.zre_capture.specs.Reading.{number_and_hex}
use Rattle.zre_capture.proofs.read.number_and_hex.Goals as goal

pub returns : goal.returns
unfolding number_and_hex
returns c = rw (sym c.in-Some.ensures, sym c.in-Some-number.ensures) (c.both.ensures _ c.hex.ensures)
