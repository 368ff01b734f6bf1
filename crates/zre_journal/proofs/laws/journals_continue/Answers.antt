use Rattle.zre_journal.proofs.JoinedEntries.{continues}
use Rattle.zre_journal.proofs.laws.journals_continue.Goals as goal

pub returns : goal.returns
returns c = λ g J K. continues g J K
