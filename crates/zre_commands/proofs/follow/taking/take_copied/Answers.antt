use Rattle.std.proofs.Common.{List, ℕ, refl, subst}
use Rattle.zre_commands.proofs.follow.MessageSteps.{takes_lost}
use Rattle.zre_commands.specs.follow.Messages.{meant_by}
use Rattle.zre_commands.specs.follow.Taken.{Takes}
use Rattle.zre_commands.proofs.follow.taking.take_copied.Goals as goal

pub returns-in-Ok : goal.returns-in-Ok
returns-in-Ok c =
    subst (λ (frames : List (List ℕ)). Takes c.take_whole.result c.args.run.now c.take_whole.new.run (meant_by frames) c.args.out.now c.take_whole.new.out) c.in-Ok.ensures c.take_whole.ensures

pub returns-in-Err : goal.returns-in-Err
returns-in-Err c = takes_lost _ c.args.run.now c.args.run.now _ c.args.out.now c.args.out.now refl
