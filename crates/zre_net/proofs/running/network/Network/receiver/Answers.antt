use Rattle.std.proofs.Common.{◌∙◌, ap, sym}
use Rattle.zre_net.specs.Lists.{nth}
use Rattle.zre_net.proofs.MovesWithEntries.{receives_some, receives_gone}
use Rattle.zre_net.proofs.running.network.Network.receiver.Goals as goal

pub returns-then-is_there : goal.returns-then-is_there
returns-then-is_there c = λ H s. receives_some H c.args.self.now s c.args.conn c.in-Some.carrier.now (sym (c.in-Some.ensures ∙ ap (nth c.args.conn) c.as_slice.ensures.value)) (sym c.if-is_there.ensures)

pub returns-else-is_there : goal.returns-else-is_there
returns-else-is_there c = λ H s. receives_gone H c.args.self.now s c.args.conn c.in-Some.carrier.now (sym (c.in-Some.ensures ∙ ap (nth c.args.conn) c.as_slice.ensures.value)) (sym c.if-is_there.ensures)
