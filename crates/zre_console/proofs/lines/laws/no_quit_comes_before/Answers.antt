use Rattle.zre_console.proofs.lines.OrdersUpToQuit.{begun-none}
use Rattle.zre_console.proofs.lines.laws.no_quit_comes_before.Goals as goal

pub returns : goal.returns
returns c = begun-none
