use Rattle.std.proofs.Common.{subst}
use Rattle.std.specs.Prelude.{OnOk}
use Rattle.zre_msg.specs.declared.message.Message.{Message}
use Rattle.zre_journal.specs.Arrivals.{at_later}
use Rattle.zre_journal.proofs.ProperAfterMarks.{run_known}
use Rattle.zre_node.specs.Stands.{Did}
use Rattle.zre_node.proofs.RowsOfKnownPeers.{nearly}
use Rattle.zre_node.proofs.tables.Tables.later_whole.Goals as goal

pub returns-in-Some : goal.returns-in-Some
returns-in-Some c = λ g H n h r.
    subst (λ (m : Message). OnOk c.later.result (Did g (at_later g n c.args.link m H) H c.later.new.self c.args.out.now c.later.new.out)) c.in-Some.ensures (c.later.ensures g H n h r)

pub returns-in-None : goal.returns-in-None
returns-in-None c = λ g H n h r.
    rw c.in-None.ensures (c.end.ensures g H (nearly g H c.args.link c.args.self.now h) (run_known H h.keeps.proper n c.args.link r))
