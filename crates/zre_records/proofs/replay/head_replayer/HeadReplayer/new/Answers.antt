use Rattle.zre_capture.specs.declared.format.Format.TheVariants.{Second}
use Rattle.zre_records.proofs.replay.CaptureInPieces.{nothing_stopped}
use Rattle.zre_records.proofs.replay.head_replayer.HeadReplayer.new.Goals as goal

pub returns-clause-fed : goal.returns-clause-fed
returns-clause-fed c = c.new.ensures

pub returns-clause-going : goal.returns-clause-going
returns-clause-going c = nothing_stopped Second
