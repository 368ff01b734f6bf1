use Rattle.zre_msg.specs.Lent.{message_of}
use Rattle.zre_peer.proofs.LinesAfterHello.{same_name, still_small, lent_is_later}
use Rattle.zre_peer.proofs.view.View.tell_later.Goals as goal

pub returns-clause-name : goal.returns-clause-name
returns-clause-name c = same_name c.tell_change.result c.args.self.now c.tell_change.new.self (message_of c.args.lent.now).body (lent_is_later c.args.lent.now) c.tell_change.ensures.ok c.tell_change.ensures.unchanged

pub returns-clause-small : goal.returns-clause-small
returns-clause-small c = still_small c.tell_change.result c.args.self.now c.tell_change.new.self (message_of c.args.lent.now).body c.requires.small c.tell_change.ensures.ok c.tell_change.ensures.unchanged
