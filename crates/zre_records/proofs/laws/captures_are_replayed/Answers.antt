use Rattle.zre_records.proofs.CapturesAreReplayed.{written}
use Rattle.zre_records.proofs.laws.captures_are_replayed.Goals as goal

pub returns : goal.returns
returns c = written
