use Rattle.std.proofs.Common.{refl}
use Rattle.zre_msg.specs.Lent.{message_of}
use Rattle.zre_commands.proofs.follow.MessageSteps.{takes_lost, takes_meant, takes_none, bad_means_none}
use Rattle.zre_commands.proofs.follow.taking.take_frames.Goals as goal

pub returns-in-Ok-Some : goal.returns-in-Ok-Some
returns-in-Ok-Some c =
    let e = c.take_lent-taken.ensures in
    let m = message_of c.in-Ok-Some.lent in
    takes_meant c.go_on.result c.args.run.now c.take_lent-taken.new.self c.args.frames.now m c.args.out.now c.go_on.new.out (rw c.in-Ok-Some.field-0-is at c.in-Ok-Some.ensures)
    (c.go_on.ensures c.args.run.now m c.args.out.now e)

pub returns-in-Err-Bad : goal.returns-in-Err-Bad
returns-in-Err-Bad c = takes_none c.args.run.now c.args.out.now _ c.requires (bad_means_none c.args.frames.now _ (rw c.in-Err-Bad.field-0-is at c.in-Err-Bad.ensures))

pub returns-in-Err-OutOfMemory : goal.returns-in-Err-OutOfMemory
returns-in-Err-OutOfMemory c = takes_lost _ c.args.run.now c.args.run.now _ c.args.out.now c.args.out.now refl
