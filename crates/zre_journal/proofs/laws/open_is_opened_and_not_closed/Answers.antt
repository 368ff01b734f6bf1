use Rattle.zre_journal.specs.Events.{chronicle}
use Rattle.zre_journal.proofs.KnownAreBorn.{open_is_opened}
use Rattle.zre_journal.proofs.laws.open_is_opened_and_not_closed.Goals as goal

pub returns : goal.returns
returns c = λ g J. open_is_opened (chronicle g J)
