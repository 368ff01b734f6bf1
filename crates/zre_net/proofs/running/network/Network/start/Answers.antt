use Rattle.std.proofs.Common.{◌≡◌, ◌∙◌, Some, sym, refl, subst, arith, length}
use Rattle.zre_net.specs.declared.moves.Move.TheVariants as move
use Rattle.zre_net.specs.Rows.{with_running, IsBegun}
use Rattle.zre_net.proofs.MovesWithEntries.{refused, played}
use Rattle.zre_net.proofs.NodesStartAndGo.{starts_stand, is_free}
use Rattle.zre_net.proofs.running.network.Network.start.Goals as goal

pub returns-then-not-may_start : goal.returns-then-not-may_start
returns-then-not-may_start c = λ H s. refused (move.Start c.args.node c.args.at c.args.config.id c.args.config.name c.args.config.host c.args.config.port) H _ (sym (c.may_start.ensures H c.args.at c.args.config.name c.args.config.host s) ∙ c.if-not-may_start.true)

pub returns : goal.returns
returns c = λ H s.
    let count : c.len.result ≡ length c.push.new.self.items = (let e = c.len.ensures in let o = c.push.new.self.ok.0 in omega (arith, e, o)) in
    let may = sym (c.may_start.ensures H c.args.at c.args.config.name c.args.config.host s) ∙ c.if-not-may_start.false in
    played (move.Start c.args.node c.args.at c.args.config.id c.args.config.name c.args.config.host c.args.config.port) H _ may
    (starts_stand H c.args.node c.args.at c.args.config.id c.args.config.name c.args.config.host c.args.config.port c.args.self.now _ s c.in_ok-started.started (subst (λ g. IsBegun c.args.node c.args.at g c.in_ok-started.started) c.requires c.in_ok-started.ensures)
    c.in_ok-push.ensures.items (subst (λ k. with_running c.args.node (Some k) c.args.self.now.running.items c.set_running.new.rows.items) count c.in_ok-set_running.ensures) c.in_ok-add_owner.ensures s.nodes.said refl refl refl refl refl
    (is_free H c.args.self.now c.args.node c.args.at c.args.config.id c.args.config.name c.args.config.host c.args.config.port s may))
