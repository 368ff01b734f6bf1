use Rattle.zre_mailbox.proofs.TalkGrows.{completed-append}
use Rattle.zre_mailbox.proofs.laws.completed_in_turn.Goals as goal

pub returns : goal.returns
returns c = completed-append
