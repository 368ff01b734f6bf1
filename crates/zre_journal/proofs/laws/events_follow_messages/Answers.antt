use Rattle.zre_journal.proofs.EventsFollowMessages.{follows_messages}
use Rattle.zre_journal.proofs.laws.events_follow_messages.Goals as goal

pub returns : goal.returns
returns c = λ g J. follows_messages g J
