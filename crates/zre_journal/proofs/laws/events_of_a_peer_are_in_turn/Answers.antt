use Rattle.zre_journal.proofs.EventsInTurn.{are_in_turn}
use Rattle.zre_journal.proofs.laws.events_of_a_peer_are_in_turn.Goals as goal

pub returns : goal.returns
returns c = λ g J. are_in_turn g J
