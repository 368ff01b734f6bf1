use Rattle.zre_journal.proofs.AnswersInTurn.{answers_in_turn}
use Rattle.zre_journal.proofs.laws.answers_are_in_turn.Goals as goal

pub returns : goal.returns
returns c = λ g J. answers_in_turn g J
