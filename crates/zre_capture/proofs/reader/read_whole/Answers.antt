use Rattle.std.proofs.Common.{arith, length-take}
use Rattle.zre_capture.proofs.reader.read_whole.Goals as goal

pub too_long-requires : goal.too_long-requires
too_long-requires c = simp length-take (omega arith)
