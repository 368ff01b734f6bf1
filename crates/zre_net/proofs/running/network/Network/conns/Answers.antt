use Rattle.std.proofs.Common.{arith}
use Rattle.zre_net.proofs.running.network.Network.conns.Goals as goal

pub returns : goal.returns
returns c = λ ms h. let n = c.len.ensures in let o = c.args.self.now.conns.ok.0 in let k = h.stands.conns_are.count in omega (arith, n, o, k)
