use Rattle.std.proofs.Common.{◌≡◌, ℕ, List, IfOk, subst}
use Rattle.zre_journal.specs.Events.{chronicle}
use Rattle.zre_journal.specs.Peers.{Life, lives}
use Rattle.zre_node.specs.Stands.{IsPeer}
use Rattle.zre_node.proofs.RowsAnswerDefinitions.{rows}
use Rattle.zre_tables.proofs.EntriesOfMaps.{keys_are}
use Rattle.zre_node.proofs.node.Node.links.Goals as goal

pub returns : goal.returns
returns c = λ g J s.
    let H = chronicle g J in
    subst (λ (ks : List ℕ). IfOk c.links.result (λ links. links ≡ ks))
    (keys_are (λ (v : Life). v.link) (IsPeer g H) (lives H) c.args.self.now.tables.peers (rows g H c.args.self.now.tables s.stands)) c.links.ensures
