use Rattle.zre_mailbox.proofs.ConnAfterOctets.{accepted}
use Rattle.zre_mailbox.proofs.conn.Conn.accept.Goals as goal

pub returns : goal.returns
returns c = accepted c.args.own c.wanting.result c.wanting.ensures
