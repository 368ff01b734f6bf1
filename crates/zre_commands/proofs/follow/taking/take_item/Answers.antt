use Rattle.std.proofs.Common.{[], sym, subst}
use Rattle.std.specs.List.{cons_option}
use Rattle.zre_zmtp.specs.declared.item.What.{What}
use Rattle.zre_commands.proofs.follow.MessageSteps.{not_meant, takes_none}
use Rattle.zre_commands.specs.follow.Messages.{meant}
use Rattle.zre_commands.specs.follow.Taken.{Takes}
use Rattle.zre_commands.proofs.follow.taking.take_item.Goals as goal

pub returns-in-Message : goal.returns-in-Message
returns-in-Message c =
    subst (λ (w : What). Takes c.take_frames.result c.args.run.now c.take_frames.new.run (cons_option (meant w) []) c.args.out.now c.take_frames.new.out) (sym c.in-Message.is) c.take_frames.ensures

pub returns-in_default : goal.returns-in_default
returns-in_default c = takes_none c.args.run.now c.args.out.now _ c.requires (not_meant c.args.item.now.what c.in_default.not-Message)
