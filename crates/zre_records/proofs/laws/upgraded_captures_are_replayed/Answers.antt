use Rattle.zre_records.proofs.CapturesAreReplayed.{upgraded}
use Rattle.zre_records.proofs.laws.upgraded_captures_are_replayed.Goals as goal

pub returns : goal.returns
returns c = upgraded
