use Rattle.std.proofs.Common.{◌++◌, [], ◌∷◌, ap, sym, subst, ◌∙◌}
use Rattle.std.proofs.lemmas.Result.{IfErr-weaker}
use Rattle.zre_msg.specs.Lent.{message_of}
use Rattle.zre_peer.specs.declared.peer_run.Run.{Run}
use Rattle.zre_peer.specs.Runs.{events_of}
use Rattle.zre_peer.specs.Standing.{Stands}
use Rattle.zre_peer.proofs.RunsAfterMessages.{taken_later, refused_on, in_order-refused, later_never, view_of_run, on_both, if_passed}
use Rattle.zre_peer.proofs.peer_run.Run.take_lent.Goals as goal

pub returns-clause-ok : goal.returns-clause-ok
returns-clause-ok c = λ ms s.
    let m = message_of c.args.lent.now in
    let v = c.in-Some.view in
    on_both c.settle.result c.later-taken.result c.settle.ensures.returned c.later-taken.ensures.ok c.settle.ensures.ok (λ a b.
    let t = taken_later c.args.self.now ms v c.later-taken.new.self m _ s c.in-Some.is c.due-next.ensures a.0 a.1 in
    (t.may, subst (λ (r : Run). Stands r (ms ++ m ∷ [])) (sym b) (record { ordered = t.ordered; going = s.going; view = t.view; count = t.count }), a.2 ∙ ap (λ x. c.args.events.now ++ events_of c.args.self.now.id x m.body) (view_of_run c.args.self.now ms v s c.in-Some.is)))

pub returns-clause-refused : goal.returns-clause-refused
returns-clause-refused c = λ ms s.
    let m = message_of c.args.lent.now in
    IfErr-weaker c.settle.result _ _ (λ e w ne. (let f = w ne in (f.0, in_order-refused [] ms m f.0, f.1, f.2)))
    (refused_on c.args.self.now ms c.in-Some.view m _ c.settle.result c.later-taken.result _ _ s c.in-Some.is c.due-next.ensures c.settle.ensures.returned c.later-taken.ensures.refused)

pub returns-clause-not_first : goal.returns-clause-not_first
returns-clause-not_first c =
    if_passed c.settle.result c.later-taken.result c.settle.ensures.returned c.later-taken.ensures.refused (λ e why is.
    let h = why (λ z. let w = sym is ∙ z in absurd cc) in
    later_never _ (message_of c.args.lent.now) (sym h.1 ∙ is))
