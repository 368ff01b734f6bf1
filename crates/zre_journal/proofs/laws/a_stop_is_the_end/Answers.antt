use Rattle.zre_journal.proofs.JoinedEntries.{ends}
use Rattle.zre_journal.proofs.laws.a_stop_is_the_end.Goals as goal

pub returns : goal.returns
returns c = λ g J K s. ends g J K s
