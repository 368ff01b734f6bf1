use Rattle.zre_journal.proofs.ChroniclesKeepJournals.{keeps}
use Rattle.zre_journal.proofs.laws.the_chronicle_keeps_the_journal.Goals as goal

pub returns : goal.returns
returns c = λ g J. keeps g J
