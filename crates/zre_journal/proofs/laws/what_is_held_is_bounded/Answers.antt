use Rattle.zre_journal.specs.Events.{chronicle}
use Rattle.zre_journal.proofs.HeldIsBounded.{within, held-most}
use Rattle.zre_journal.proofs.laws.what_is_held_is_bounded.Goals as goal

pub returns-clause-parts : goal.returns-clause-parts
returns-clause-parts c = λ g J can. within g can J

pub returns-clause-all : goal.returns-clause-all
returns-clause-all c = λ g J can. held-most g (chronicle g J) (within g can J)
