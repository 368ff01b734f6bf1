use Rattle.std.proofs.Common.{◌≡◌, ◌∙◌, ap, refl, arith, length}
use Rattle.zre_net.specs.declared.moves.Move.TheVariants as move
use Rattle.zre_net.specs.Lists.{nth}
use Rattle.zre_net.proofs.OpeningConnections.{opens_played, same_fields}
use Rattle.zre_net.proofs.MovesWithEntries.{still}
use Rattle.zre_net.proofs.running.network.Network.open.Goals as goal

pub returns : goal.returns
returns c = λ H s.
    let count : c.len-conn.result ≡ length c.push.new.self.items = (let e = c.len-conn.ensures in let o = c.push.new.self.ok.0 in omega (arith, e, o)) in
    opens_played H c.args.self.now c.step.new.self c.push.new.self.items s c.args.link c.args.node c.args.at c.in-Some.to c.len-conn.result c.in-Some-nth.way.now c.in-Some-nth-2.started.now
    (record { to = c.in-Some.to; along = c.in-Some-nth.way.now; waiting = c.new.result; read_side = c.new-read_side.result }) c.in-Some.ensures (c.in-Some-nth.ensures ∙ ap (nth c.args.link) c.as_slice.ensures) (c.in-Some-nth-2.ensures ∙ ap (nth c.in-Some.to) c.as_slice-2.ensures.value)
    refl refl c.new.ensures c.new-read_side.ensures c.in_ok-push.ensures.items count
    (λ a t. c.in_ok-step.ensures.nodes H (move.Open c.args.link c.args.node c.args.at) a (same_fields H c.args.self.now _ s.nodes.said refl refl refl refl refl refl s.nodes) (still (move.Open c.args.link c.args.node c.args.at) tt) t tt)
    (ap (λ v. v.items) c.in_ok-step.ensures.conns) c.in_ok-step.ensures.pending
