use Rattle.zre_journal.specs.Events.{chronicle}
use Rattle.zre_journal.proofs.ProperChronicles.{is_proper}
use Rattle.zre_journal.proofs.LawsOfChronicles.{are_strangers}
use Rattle.zre_journal.proofs.laws.identities_are_apart.Goals as goal

pub returns : goal.returns
returns c = λ g J. are_strangers (chronicle g J) (is_proper g J)
