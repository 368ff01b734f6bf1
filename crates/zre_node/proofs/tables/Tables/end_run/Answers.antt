use Rattle.std.proofs.Common.{sym}
use Rattle.zre_journal.proofs.ProperAfterMarks.{run_known}
use Rattle.zre_node.proofs.RowsOfKnownPeers.{nearly}
use Rattle.zre_node.proofs.tables.Tables.end_run.Goals as goal

pub returns-in-Some : goal.returns-in-Some
returns-in-Some c = λ g H h o.
    let r = sym (c.in-Some.ensures g H h o) in
    rw r (c.end.ensures g H (nearly g H c.in-Some.link c.args.self.now h) (run_known H h.keeps.proper c.args.conn c.in-Some.link r))
