use Rattle.std.proofs.Common.{◌≡◌, length}
use Rattle.zre_net.specs.Reading.{lines_in, moves_in}
use Rattle.zre_net.proofs.reading.reader.next_move.Given as goal

abbrev pub invariant-lines : goal.invariant-lines
invariant-lines l = moves_in (lines_in l.rest) ≡ moves_in (lines_in l.text)

abbrev pub decreases-lines : goal.decreases-lines
decreases-lines l = length l.rest
