use Rattle.zre_journal.proofs.CommandsObeyed.{obeys}
use Rattle.zre_journal.proofs.laws.commands_are_obeyed.Goals as goal

pub returns : goal.returns
returns c = λ g J. obeys g J
