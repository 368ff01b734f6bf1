use Rattle.std.proofs.Common.{◌∙◌, ap, sym}
use Rattle.zre_net.specs.Lists.{nth}
use Rattle.zre_net.proofs.MovesWithEntries.{sends_gone}
use Rattle.zre_net.proofs.running.network.Network.sender.Goals as goal

pub returns-else-is_there : goal.returns-else-is_there
returns-else-is_there c = λ H s. sends_gone H c.args.self.now s c.args.link c.in-Some.way.now (sym (c.in-Some.ensures ∙ ap (nth c.args.link) c.as_slice.ensures)) (sym c.if-is_there.ensures)
