use Rattle.std.proofs.Common.{[], refl}
use Rattle.zre_console.proofs.lines.OrdersUpToQuit.{orders-begin}
use Rattle.zre_console.proofs.lines.laws.a_quit_ends_the_orders.Goals as goal

pub returns : goal.returns
returns c = λ o. orders-begin o [] _ refl refl
