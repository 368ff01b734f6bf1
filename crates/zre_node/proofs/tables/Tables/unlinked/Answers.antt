use Rattle.std.proofs.Common.{[], sym, ◌∙◌}
use Rattle.zre_journal.specs.Peers.{life}
use Rattle.zre_node.proofs.EffectsOnLinks.{some_peer, no_break, break}
use Rattle.zre_node.proofs.MarksAfterMarks.{did_as, idle_did}
use Rattle.zre_node.proofs.RowsOfKnownPeers.{nearly}
use Rattle.zre_node.proofs.FirstMessages.{on_did_as}
use Rattle.zre_node.proofs.tables.Tables.unlinked.Goals as goal

pub returns-then-not-contains : goal.returns-then-not-contains
returns-then-not-contains c = λ g K h.
    let o = sym (c.contains.ensures ∙ some_peer g K c.args.self.now h c.args.link) ∙ c.if-not-contains.true in
    did_as g _ [] K _ _ _ (no_break g c.args.link (life c.args.link K) o) (idle_did g K c.args.self.now c.args.out.now h)

pub returns : goal.returns
returns c = λ g K h.
    let o = sym (c.contains.ensures ∙ some_peer g K c.args.self.now h c.args.link) ∙ c.if-not-contains.false in
    let b = break g c.args.link (life c.args.link K) o in
    on_did_as g _ _ K _ _ _ c.end.result b.1 (c.end.ensures g K (nearly g K c.args.link c.args.self.now h) b.0)
