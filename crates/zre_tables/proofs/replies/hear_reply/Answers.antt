use Rattle.std.proofs.Common.{true, refl, arith}
use Rattle.zre_tables.proofs.replies.hear_reply.Goals as goal

pub returns-in-Ok-clause-standing : goal.returns-in-Ok-clause-standing
returns-in-Ok-clause-standing over c = λ own line o n e. let r = c.in-Ok.ensures.ok own line true o n e in (r.2, rw (r.0, r.1) refl)

pub returns-in-Err-Zmtp-clause-standing : goal.returns-in-Err-Zmtp-clause-standing
returns-in-Err-Zmtp-clause-standing over c = λ own line o n e.
    let all = rw c.in-Err-Zmtp.field-0-is at c.in-Err-Zmtp.ensures.refused in
    let r = all own line true o n e in (r.2, rw (r.0, r.1) refl)

pub returns-in-Err-Slow-clause-standing : goal.returns-in-Err-Slow-clause-standing
returns-in-Err-Slow-clause-standing over c = λ own line o n e.
    let all = rw c.in-Err-Slow.field-0-is at c.in-Err-Slow.ensures.refused in
    let r = all own line true o n e in (r.1, rw r.0 refl)

pub returns-then-not-is_linked-clause-looks : goal.returns-then-not-is_linked-clause-looks
returns-then-not-is_linked-clause-looks over c = (omega arith, tt)

pub returns-in-Ok-clause-looks : goal.returns-in-Ok-clause-looks
returns-in-Ok-clause-looks over c = c.in-Ok.ensures.looks

pub returns-in-Err-Zmtp-clause-looks : goal.returns-in-Err-Zmtp-clause-looks
returns-in-Err-Zmtp-clause-looks over c = let p = rw c.in-Err-Zmtp.field-0-is at c.in-Err-Zmtp.ensures.paid in (p (λ q. cc), tt)

pub returns-in-Err-Slow-clause-looks : goal.returns-in-Err-Slow-clause-looks
returns-in-Err-Slow-clause-looks over c = let p = rw c.in-Err-Slow.field-0-is at c.in-Err-Slow.ensures.paid in (p (λ q. cc), tt)

pub returns-in-Err-OutOfMemory-clause-looks : goal.returns-in-Err-OutOfMemory-clause-looks
returns-in-Err-OutOfMemory-clause-looks over c = c.in-Err-OutOfMemory.ensures.looks
