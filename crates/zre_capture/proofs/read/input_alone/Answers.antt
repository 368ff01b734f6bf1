use Rattle.zre_capture.proofs.WordsWithFields.{no_input}
use Rattle.zre_capture.proofs.read.input_alone.Goals as goal

pub returns-in_default : goal.returns-in_default
returns-in_default c = no_input c.args.word c.in_default.not-Tick c.in_default.not-End
