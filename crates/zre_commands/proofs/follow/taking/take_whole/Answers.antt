use Rattle.std.proofs.Common.{refl}
use Rattle.zre_commands.proofs.follow.MessageSteps.{takes_lost, takes_meant, takes_none, bad_means_none}
use Rattle.zre_commands.proofs.follow.taking.take_whole.Goals as goal

pub returns-in-Ok : goal.returns-in-Ok
returns-in-Ok c =
    let e = c.take-taken.ensures in
    takes_meant c.go_on.result c.args.run.now c.take-taken.new.self c.args.frames.now c.in-Ok.message c.args.out.now c.go_on.new.out c.in-Ok.ensures.exact
    (c.go_on.ensures c.args.run.now c.in-Ok.message c.args.out.now e)

pub returns-in-Err-Bad : goal.returns-in-Err-Bad
returns-in-Err-Bad c = takes_none c.args.run.now c.args.out.now _ c.requires (bad_means_none c.args.frames.now _ (rw c.in-Err-Bad.field-0-is at c.in-Err-Bad.ensures.exact))

pub returns-in-Err-OutOfMemory : goal.returns-in-Err-OutOfMemory
returns-in-Err-OutOfMemory c = takes_lost _ c.args.run.now c.args.run.now _ c.args.out.now c.args.out.now refl
