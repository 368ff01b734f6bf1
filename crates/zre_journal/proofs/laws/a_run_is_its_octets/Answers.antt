use Rattle.zre_journal.proofs.RunsOnOctets.{runs_on_octets}
use Rattle.zre_journal.proofs.laws.a_run_is_its_octets.Goals as goal

pub returns : goal.returns
returns c = λ g J. runs_on_octets g J
