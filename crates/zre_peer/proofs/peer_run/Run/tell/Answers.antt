use Rattle.std.proofs.Common.{◌++◌, [], ◌∷◌, ap, sym, subst, ◌∙◌}
use Rattle.zre_msg.specs.Lent.{message_of}
use Rattle.zre_peer.specs.declared.peer_run.Run.{Run}
use Rattle.zre_peer.specs.Lines.{lines}
use Rattle.zre_peer.specs.Runs.{events_of}
use Rattle.zre_peer.specs.Standing.{Stands}
use Rattle.zre_peer.proofs.RunsAfterMessages.{taken_later, refused_on, view_of_run, on_all}
use Rattle.zre_peer.proofs.peer_run.Run.tell.Goals as goal

pub returns-clause-ok : goal.returns-clause-ok
returns-clause-ok c = λ ms s.
    let m = message_of c.args.lent.now in
    let v = c.in-Some.view in
    let told = c.tell_later-taken.ensures.lines c.args.self.now.id (c.requires.ready v c.in-Some.is) in
    on_all c.settle.result c.tell_later-taken.result c.settle.ensures.returned c.tell_later-taken.ensures.ok told c.settle.ensures.ok (λ a lines_are b.
    let t = taken_later c.args.self.now ms v c.tell_later-taken.new.self m _ s c.in-Some.is c.due-next.ensures a.0 a.1 in
    (t.may, subst (λ (r : Run). Stands r (ms ++ m ∷ [])) (sym b) (record { ordered = t.ordered; going = s.going; view = t.view; count = t.count }), lines_are ∙ ap (λ x. c.args.out.now ++ lines (events_of c.args.self.now.id x m.body)) (view_of_run c.args.self.now ms v s c.in-Some.is)))

pub returns-clause-refused : goal.returns-clause-refused
returns-clause-refused c = λ ms s.
    refused_on c.args.self.now ms c.in-Some.view (message_of c.args.lent.now) _ c.settle.result c.tell_later-taken.result _ _ s c.in-Some.is c.due-next.ensures c.settle.ensures.returned c.tell_later-taken.ensures.refused
