use Rattle.zre_node.proofs.MarksAfterMarks.{idle_did}
use Rattle.zre_node.proofs.RowsOfKnownPeers.{nearly}
use Rattle.zre_node.proofs.tables.Tables.end_by_reply.Goals as goal

pub returns-in-Some : goal.returns-in-Some
returns-in-Some c = λ g K h known.
    let there = rw c.in-Some.is at known in
    rw c.in-Some.is (c.end.ensures g K (nearly g K c.args.link c.args.self.now h) there)

pub returns-in-None : goal.returns-in-None
returns-in-None c = λ g K h known. rw c.in-None.is (idle_did g K c.args.self.now c.args.out.now h)
