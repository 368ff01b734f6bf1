use Rattle.zre_outside.specs.declared.entry.Command.TheVariants as ask
use Rattle.zre_capture.proofs.FieldByField.{never_alone}
use Rattle.zre_capture.proofs.read.command_with.Goals as goal

pub returns-in-Quit : goal.returns-in-Quit
returns-in-Quit c = rw c.in-Quit.is (never_alone ask.Quit c.args.rest.now)
