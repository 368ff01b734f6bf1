use Rattle.zre_records.proofs.replay.CaptureInPieces.{not_bad}
use Rattle.zre_records.proofs.replay.reading.Pieces.new.Goals as goal

pub returns : goal.returns
returns c = λ f reads format. (not_bad f, reads, format)
