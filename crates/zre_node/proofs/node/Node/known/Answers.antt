use Rattle.std.proofs.Common.{◌∙◌}
use Rattle.zre_journal.specs.Events.{chronicle}
use Rattle.zre_journal.specs.Peers.{Life, lives}
use Rattle.zre_node.specs.Stands.{IsPeer}
use Rattle.zre_node.proofs.RowsAnswerDefinitions.{rows}
use Rattle.zre_tables.proofs.EntriesOfMaps.{as_many}
use Rattle.zre_node.proofs.node.Node.known.Goals as goal

pub returns : goal.returns
returns c = λ g J s.
    let H = chronicle g J in
    c.len.ensures ∙ as_many (λ (v : Life). v.link) (IsPeer g H) (lives H) c.args.self.now.tables.peers (rows g H c.args.self.now.tables s.stands)
