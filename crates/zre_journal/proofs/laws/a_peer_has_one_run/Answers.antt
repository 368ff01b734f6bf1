use Rattle.zre_journal.specs.Events.{chronicle}
use Rattle.zre_journal.proofs.ProperChronicles.{is_proper}
use Rattle.zre_journal.proofs.LawsOfChronicles.{runs_alone}
use Rattle.zre_journal.proofs.laws.a_peer_has_one_run.Goals as goal

pub returns : goal.returns
returns c = λ g J. runs_alone (chronicle g J) (is_proper g J)
