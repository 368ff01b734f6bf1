use Rattle.zre_console.proofs.lines.OrdersUpToQuit.{commands-are_orders}
use Rattle.zre_console.proofs.lines.laws.commands_are_orders.Goals as goal

pub returns : goal.returns
returns c = commands-are_orders
