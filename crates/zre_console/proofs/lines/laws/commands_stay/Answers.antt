use Rattle.zre_console.proofs.lines.LinesOfPrefix.{typed-more}
use Rattle.zre_console.proofs.lines.laws.commands_stay.Goals as goal

pub returns : goal.returns
returns c = typed-more
