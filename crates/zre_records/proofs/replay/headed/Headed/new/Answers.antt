use Rattle.zre_capture.specs.declared.format.Format.TheVariants.{Second}
use Rattle.zre_records.proofs.replay.headed.Headed.new.Goals as goal

pub returns : goal.returns
returns g c = record {
  reads = c.new.ensures Second c.second-reader.ensures.reads c.second-reader.ensures.format;
  lives = tt;
}
