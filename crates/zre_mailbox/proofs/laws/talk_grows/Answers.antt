use Rattle.zre_mailbox.proofs.TalkGrows.{goes}
use Rattle.zre_mailbox.proofs.laws.talk_grows.Goals as goal

pub returns : goal.returns
returns c = goes
