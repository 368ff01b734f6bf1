use Rattle.zre_node.proofs.MarksAfterMarks.{idle_did}
use Rattle.zre_node.proofs.tables.Tables.later_lent.Goals as goal

pub returns-in-Ok-Some : goal.returns-in-Ok-Some
returns-in-Ok-Some c = λ g H n h r.
    let says = rw c.in-Ok-Some.field-0-is at c.in-Ok-Some.ensures in
    rw says (c.later.ensures g H n h r)

pub returns-in-Err-Bad : goal.returns-in-Err-Bad
returns-in-Err-Bad c = λ g H n h r.
    let bad = rw c.in-Err-Bad.field-0-is at c.in-Err-Bad.ensures in
    rw bad (idle_did g H c.args.self.now c.args.out.now h)
