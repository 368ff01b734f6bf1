use Rattle.std.proofs.Common.{sym, ap, ◌∙◌}
use Rattle.zre_capture.specs.Reading.{entry_in}
use Rattle.zre_capture.proofs.WordsWithFields.{no_entry}
use Rattle.zre_capture.proofs.read.entry.Goals as goal

pub returns-in-None : goal.returns-in-None
returns-in-None c = no_entry c.args.format c.args.before c.args.text.now ∙ sym (ap (entry_in c.args.format c.args.before) c.in-None.ensures)
