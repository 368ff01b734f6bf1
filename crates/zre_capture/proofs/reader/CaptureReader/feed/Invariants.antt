use Rattle.std.proofs.Common.{length}
use Rattle.zre_capture.proofs.LineByLine.{IsAmid}
use Rattle.zre_capture.proofs.reader.CaptureReader.feed.Given as goal

abbrev pub invariant-lines : goal.invariant-lines
invariant-lines l = IsAmid l.fn.self l.piece l.fn.out l.out l.self l.rest

abbrev pub decreases-lines : goal.decreases-lines
decreases-lines l = length l.rest
