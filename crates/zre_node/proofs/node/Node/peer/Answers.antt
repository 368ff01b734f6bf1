use Rattle.std.proofs.Common.{◌∙◌}
use Rattle.zre_journal.specs.Events.{chronicle}
use Rattle.zre_journal.specs.Peers.{lives}
use Rattle.zre_node.proofs.RowsAnswerDefinitions.{rows, view_found}
use Rattle.zre_node.proofs.node.Node.peer.Goals as goal

pub returns : goal.returns
returns c = λ g J s.
    let H = chronicle g J in
    c.view_of.ensures ∙ view_found g H c.args.id (lives H) c.args.self.now.tables.peers (rows g H c.args.self.now.tables s.stands)
