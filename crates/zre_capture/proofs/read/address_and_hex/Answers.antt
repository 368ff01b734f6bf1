use Rattle.std.proofs.Common.{sym}
use Rattle.zre_capture.specs.Reading.{address_and_hex}
use Rattle.zre_capture.proofs.read.address_and_hex.Goals as goal

pub returns : goal.returns
unfolding address_and_hex
returns c = rw (sym c.in-Some.ensures, sym c.in-Some-address.ensures) (c.both.ensures _ c.hex.ensures)
