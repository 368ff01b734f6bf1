use Rattle.std.proofs.Common.{sym, ap}
use Rattle.zre_capture.specs.Journal.{last_reading}
use Rattle.zre_capture.specs.declared.format.Format.TheVariants.{First}
use Rattle.zre_records.proofs.replay.CaptureInPieces.{no_entries, nothing_stopped}
use Rattle.zre_records.proofs.upgrade.upgrader.Upgrader.new.Goals as goal

pub returns-clause-fed : goal.returns-clause-fed
returns-clause-fed c = record {
  reads = c.new-pieces.ensures First c.new-reader.ensures.reads c.new-reader.ensures.format;
  before = ap (last_reading 0) (sym no_entries);
}

pub returns-clause-going : goal.returns-clause-going
returns-clause-going c = nothing_stopped First
