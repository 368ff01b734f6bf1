use Rattle.zre_node.proofs.MarksAfterMarks.{idle_did}
use Rattle.zre_node.proofs.tables.Tables.hello_in.Goals as goal

pub returns-in-Ok : goal.returns-in-Ok
returns-in-Ok c = λ g H n h r. rw c.in-Ok.ensures.exact (c.later_whole.ensures g H n h r)

pub returns-in-Err-Bad : goal.returns-in-Err-Bad
returns-in-Err-Bad c = λ g H n h r.
    let bad = rw c.in-Err-Bad.field-0-is at c.in-Err-Bad.ensures.exact in
    rw bad (idle_did g H c.args.self.now c.args.out.now h)
