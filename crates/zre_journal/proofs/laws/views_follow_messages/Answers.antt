use Rattle.zre_journal.proofs.LawsOfChronicles.{shows_messages}
use Rattle.zre_journal.proofs.laws.views_follow_messages.Goals as goal

pub returns : goal.returns
returns c = λ g J. shows_messages g J
