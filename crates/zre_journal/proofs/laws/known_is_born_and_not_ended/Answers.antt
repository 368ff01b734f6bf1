use Rattle.zre_journal.proofs.KnownAreBorn.{known_is_born}
use Rattle.zre_journal.proofs.laws.known_is_born_and_not_ended.Goals as goal

pub returns : goal.returns
returns c = λ g J. known_is_born g J
