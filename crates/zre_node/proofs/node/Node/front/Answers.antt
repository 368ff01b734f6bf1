use Rattle.std.proofs.Common.{◌<◌, is_some, refl, sym, ap, ◌∙◌, subst, lt-ltb, true≢false}
use Rattle.zre_journal.specs.Events.{chronicle}
use Rattle.zre_journal.specs.Links.{line, is_linked, replies, taken, gate}
use Rattle.zre_link.specs.Link.{Sending, has_front}
use Rattle.zre_node.proofs.RowsAnswerDefinitions.{asked, unasked}
use Rattle.zre_node.proofs.node.Node.front.Goals as goal

pub returns-in-Some-clause-front : goal.returns-in-Some-clause-front
returns-in-Some-clause-front c = λ g J s.
    let H = chronicle g J in
    let it = asked g H c.args.self.now.tables s.stands c.args.link c.in-Some.peer.now c.in-Some.ensures.value in
    rw it.1 (c.front.result.now, refl, c.front.ensures.front g.id (line it.0.link H) (is_linked it.0.link H) (replies it.0.link H) (taken it.0.link H) it.3)

pub returns-in-None-clause-front : goal.returns-in-None-clause-front
returns-in-None-clause-front c = λ g J s.
    let none = unasked g (chronicle g J) c.args.self.now.tables s.stands c.args.link c.in-None.ensures.value in
    rw none refl

pub returns-in-Some-clause-due : goal.returns-in-Some-clause-due
returns-in-Some-clause-due c = λ g J s d.
    let H = chronicle g J in
    let it = asked g H c.args.self.now.tables s.stands c.args.link c.in-Some.peer.now c.in-Some.ensures.value in
    let less = subst (λ k. taken k H < gate g k H) it.2 d.some in
    (c.front.result.now, refl, c.front.ensures.not_empty (ap (λ (x : Sending). has_front x) it.3 ∙ lt-ltb (taken it.0.link H) (gate g it.0.link H) less))

pub returns-in-None-clause-due : goal.returns-in-None-clause-due
returns-in-None-clause-due c = λ g J s d.
    let none = unasked g (chronicle g J) c.args.self.now.tables s.stands c.args.link c.in-None.ensures.value in
    absurd (true≢false (sym d.known ∙ ap is_some none))
