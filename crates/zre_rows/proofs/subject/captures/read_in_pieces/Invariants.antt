use Rattle.std.proofs.Common.{length}
use Rattle.zre_capture.specs.Journal.{Waits}
use Rattle.zre_rows.proofs.subject.captures.read_in_pieces.Given as goal

abbrev pub invariant-pieces : goal.invariant-pieces
invariant-pieces l = Waits l.reader

abbrev pub decreases-pieces : goal.decreases-pieces
decreases-pieces l = length l.rest
