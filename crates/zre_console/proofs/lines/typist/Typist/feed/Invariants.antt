use Rattle.std.proofs.Common.{length}
use Rattle.zre_console.proofs.lines.TypedPieces.{IsAmid}
use Rattle.zre_console.proofs.lines.typist.Typist.feed.Given as goal

abbrev pub invariant-lines : goal.invariant-lines
invariant-lines l = IsAmid l.fn.self l.piece l.fn.out.items l.out.items l.self l.rest

abbrev pub decreases-lines : goal.decreases-lines
decreases-lines l = length l.rest
