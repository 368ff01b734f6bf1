use Rattle.zre_mailbox.proofs.TalkGrows.{nothing_said}
use Rattle.zre_mailbox.proofs.laws.nothing_said.Goals as goal

pub returns : goal.returns
returns c = nothing_said
