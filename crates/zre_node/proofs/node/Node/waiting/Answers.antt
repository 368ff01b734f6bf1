use Rattle.std.proofs.Common.{◌≤◌, drop, length, ap, sym, subst}
use Rattle.std.specs.Prelude.{Option, option_map}
use Rattle.zre_journal.specs.Events.{chronicle}
use Rattle.zre_journal.specs.Links.{line, is_linked, replies, taken, text}
use Rattle.zre_journal.specs.Peers.{Life}
use Rattle.zre_node.proofs.RowsAnswerDefinitions.{asked, answered, unasked}
use Rattle.zre_node.proofs.node.Node.waiting.Goals as goal

pub returns-in-Some-clause-octets : goal.returns-in-Some-clause-octets
returns-in-Some-clause-octets c = λ g J s.
    let H = chronicle g J in
    answered g H c.args.self.now.tables s.stands c.args.link c.in-Some.peer.now c.in-Some.ensures.value (λ (u : Life). drop (taken u.link H) (text g u.link H)) _ (λ v is. (c.waiting.ensures g.id (line v.link H) (is_linked v.link H) (replies v.link H) (taken v.link H) is).0)

pub returns-in-None-clause-octets : goal.returns-in-None-clause-octets
returns-in-None-clause-octets c = λ g J s.
    let H = chronicle g J in
    let none = unasked g H c.args.self.now.tables s.stands c.args.link c.in-None.ensures.value in
    ap (λ (o : Option Life). option_map (λ (u : Life). drop (taken u.link H) (text g u.link H)) o) (sym none)

pub returns-in-Some-clause-within : goal.returns-in-Some-clause-within
returns-in-Some-clause-within c = λ g J s.
    let H = chronicle g J in
    let it = asked g H c.args.self.now.tables s.stands c.args.link c.in-Some.peer.now c.in-Some.ensures.value in
    let rest = c.waiting.ensures g.id (line it.0.link H) (is_linked it.0.link H) (replies it.0.link H) (taken it.0.link H) it.3 in
    subst (λ k. taken k H ≤ length (text g k H)) (sym it.2) rest.1
