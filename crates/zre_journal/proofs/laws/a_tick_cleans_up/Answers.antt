use Rattle.zre_journal.proofs.CleanAfterTicks.{cleans_up, waits}
use Rattle.zre_journal.proofs.laws.a_tick_cleans_up.Goals as goal

pub returns : goal.returns
returns c = λ g J e v t. cleans_up g (waits g v) J e t
