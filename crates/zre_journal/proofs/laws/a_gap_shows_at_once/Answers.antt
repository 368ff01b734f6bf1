use Rattle.zre_journal.proofs.MessagesOfLedgers.{is_judged}
use Rattle.zre_journal.proofs.laws.a_gap_shows_at_once.Goals as goal

pub returns : goal.returns
returns c = λ g sent c l pick m K numbered picked run some near. is_judged g sent c l pick m K numbered picked run some near
