use Rattle.zre_console.proofs.lines.OrdersUpToQuit.{quit-ends}
use Rattle.zre_console.proofs.lines.laws.quit_ends.Goals as goal

pub returns : goal.returns
returns c = quit-ends
