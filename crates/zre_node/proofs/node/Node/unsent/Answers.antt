use Rattle.std.proofs.Common.{ap, sym}
use Rattle.std.specs.Prelude.{Option, option_map}
use Rattle.zre_journal.specs.Events.{chronicle}
use Rattle.zre_journal.specs.Links.{line, is_linked, replies, taken, unsent}
use Rattle.zre_journal.specs.Peers.{Life}
use Rattle.zre_node.proofs.RowsAnswerDefinitions.{answered, unasked}
use Rattle.zre_node.proofs.node.Node.unsent.Goals as goal

pub returns-in-Some : goal.returns-in-Some
returns-in-Some c = λ g J s.
    let H = chronicle g J in
    answered g H c.args.self.now.tables s.stands c.args.link c.in-Some.peer.now c.in-Some.ensures.value (λ (u : Life). unsent g u.link H) _ (λ v is. (c.unsent.ensures.unsent g.id (line v.link H) (is_linked v.link H) (replies v.link H) (taken v.link H) is).0)

pub returns-in-None : goal.returns-in-None
returns-in-None c = λ g J s. ap (λ (o : Option Life). option_map (λ (u : Life). unsent g u.link (chronicle g J)) o) (sym (unasked g (chronicle g J) c.args.self.now.tables s.stands c.args.link c.in-None.ensures.value))
