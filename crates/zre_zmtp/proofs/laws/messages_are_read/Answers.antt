use Rattle.zre_zmtp.proofs.MessagesAwaited.{message_is_read}
use Rattle.zre_zmtp.proofs.laws.messages_are_read.Goals as goal

pub returns : goal.returns
returns c = λ want kind o message awaits within. message_is_read want kind o message awaits within
