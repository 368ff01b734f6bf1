use Rattle.zre_journal.proofs.NearMessages.{is_within_window}
use Rattle.zre_journal.proofs.laws.what_comes_near_is_counted_near.Goals as goal

pub returns : goal.returns
returns c = λ g J b drawn near. is_within_window g J b drawn near
