use Rattle.zre_journal.proofs.EventsInTurn.{told_all}
use Rattle.zre_journal.proofs.laws.what_is_told_are_the_events.Goals as goal

pub returns : goal.returns
returns c = λ g J. told_all g J
