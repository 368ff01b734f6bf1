use Rattle.std.proofs.Common.{length, ap, sym}
use Rattle.std.specs.Prelude.{Option, option_map}
use Rattle.zre_journal.specs.Events.{chronicle}
use Rattle.zre_journal.specs.Links.{line, is_linked, replies, taken, bodies}
use Rattle.zre_journal.specs.Peers.{Life}
use Rattle.zre_node.proofs.RowsAnswerDefinitions.{answered, unasked}
use Rattle.zre_node.proofs.node.Node.sent.Goals as goal

pub returns-in-Some : goal.returns-in-Some
returns-in-Some c = λ g J s.
    let H = chronicle g J in
    answered g H c.args.self.now.tables s.stands c.args.link c.in-Some.peer.now c.in-Some.ensures.value (λ (u : Life). length (bodies u.link H)) _ (λ v is. c.sent.ensures g.id (line v.link H) (is_linked v.link H) (replies v.link H) (taken v.link H) is)

pub returns-in-None : goal.returns-in-None
returns-in-None c = λ g J s. ap (λ (o : Option Life). option_map (λ (u : Life). length (bodies u.link (chronicle g J))) o) (sym (unasked g (chronicle g J) c.args.self.now.tables s.stands c.args.link c.in-None.ensures.value))
