use Rattle.std.proofs.Common.{◌≡◌, List, IfOk, subst}
use Rattle.zre_values.specs.declared.peer_id.PeerId.{PeerId}
use Rattle.zre_journal.specs.Events.{chronicle}
use Rattle.zre_journal.specs.Peers.{lives}
use Rattle.zre_node.proofs.RowsAnswerDefinitions.{rows, all_entered}
use Rattle.zre_node.proofs.node.Node.peers.Goals as goal

pub returns : goal.returns
returns c = λ g J s.
    let H = chronicle g J in
    subst (λ (all : List PeerId). IfOk c.entered.result (λ ids. ids ≡ all)) (all_entered g H (lives H) c.args.self.now.tables.peers (rows g H c.args.self.now.tables s.stands)) c.entered.ensures
