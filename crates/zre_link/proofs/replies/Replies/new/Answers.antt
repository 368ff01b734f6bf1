use Rattle.zre_link.proofs.HeardReplies.{heard_nothing}
use Rattle.zre_link.proofs.replies.Replies.new.Goals as goal

pub returns : goal.returns
returns c = heard_nothing c.wanting.result c.wanting.ensures
