use Rattle.zre_capture.proofs.WordsWithFields.{no_command}
use Rattle.zre_capture.proofs.read.command_alone.Goals as goal

pub returns-in_default : goal.returns-in_default
returns-in_default c = no_command c.args.word c.in_default.not-Quit
