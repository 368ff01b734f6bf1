use Rattle.zre_commands.proofs.follow.MessageSteps.{goes_on}
use Rattle.zre_commands.proofs.follow.taking.go_on.Goals as goal

pub returns-in-Ok : goal.returns-in-Ok
returns-in-Ok c = λ was m before h. goes_on was c.args.run.now m before c.args.out.now (rw c.in-Ok.is at h)

pub returns-in-Err : goal.returns-in-Err
returns-in-Err c = λ was m before h. c.end.ensures was m before (rw c.in-Err.is at h)
