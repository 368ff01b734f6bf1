use Rattle.zre_net.proofs.FewMessages.{few_are_near}
use Rattle.zre_net.proofs.laws.few_messages_are_within_the_window.Goals as goal

pub returns : goal.returns
returns c = few_are_near
