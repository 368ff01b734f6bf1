use Rattle.zre_records.proofs.replay.CaptureInPieces.{goes_on, piece_read, is_still}
use Rattle.zre_records.proofs.replay.reading.Pieces.read.Goals as goal

pub returns-in_default : goal.returns-in_default
returns-in_default c = λ f o h going. goes_on f c.replace.result o (is_still f o _ _ c.replace.ensures.value h) going c.in_default.not-Going

pub returns : goal.returns
returns c = λ f o h going.
    piece_read f o c.args.piece.now c.args.self.now.state c.replace.result c.in_ok-state.state c.in-Going.waiting c.clear.new.self c.read_piece.new.entries h c.replace.ensures.value c.in-Going.is c.in_ok-state.ensures c.clear.ensures
