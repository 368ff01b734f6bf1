use Rattle.zre_console.proofs.reader.PutOfPieces.{end-none, end-put, end-quit, end-over, end-memory}
use Rattle.zre_console.proofs.reader.putting.ChatPipes.finish.Goals as goal

pub returns-in_default-clause-finishes : goal.returns-in_default-clause-finishes
returns-in_default-clause-finishes g c = λ o known none. end-memory o c.args.pass none

pub returns-in_default-last-clause-finishes : goal.returns-in_default-last-clause-finishes
returns-in_default-last-clause-finishes g c = λ o known none. end-none o c.args.pass (rw c.in_default-last.is at (c.in-Ok.ensures o known)) none

pub returns-in-On-clause-finishes : goal.returns-in-On-clause-finishes
returns-in-On-clause-finishes g c = λ o known none.
    let e = rw c.in-Some.is at (c.in-Ok.ensures o known) in
    let sent = rw c.in-On.is at c.put_one-pass.ensures.sent in
    end-put o c.in-Some.command c.args.pass c.put_one-pass.result.0 e none sent.1 sent.0

pub returns-in-Quit-clause-finishes : goal.returns-in-Quit-clause-finishes
returns-in-Quit-clause-finishes g c = λ o known none.
    let e = rw c.in-Some.is at (c.in-Ok.ensures o known) in
    let sent = rw c.in-Quit.is at c.put_one-pass.ensures.sent in
    end-quit o c.in-Some.command c.args.pass c.put_one-pass.result.0 e none sent.1 sent.0

pub returns-in-Over-clause-finishes : goal.returns-in-Over-clause-finishes
returns-in-Over-clause-finishes g c = λ o known none. end-over o c.args.pass c.put_one-pass.result.0 none (rw c.in-Over.is at c.put_one-pass.ensures.sent)
