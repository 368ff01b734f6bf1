use Rattle.std.proofs.Common.{rules, List, ◌++◌, is_some, refl, sym, ap, subst, ◌∙◌}
use Rattle.zre_peer.specs.declared.event.Event.{Event}
use Rattle.zre_peer.specs.declared.peer_run.Run.{Run}
use Rattle.zre_peer.specs.Lines.{lines}
use Rattle.zre_peer.specs.Runs.{events_of}
use Rattle.zre_peer.specs.Standing.{Stands}
use Rattle.zre_peer.specs.Views.{view_of}
use Rattle.zre_peer.proofs.LinesAfterHello.{ready_after, passed_on}
use Rattle.zre_peer.proofs.teller.Teller.take_first.Goals as goal

pub invariant_of-self-inside : goal.invariant_of-self-inside
invariant_of-self-inside c = (
  ready_after c.take_from.result c.self.inside.run c.take_from.new.self c.args.message.now.body c.id.result c.in_ok-heads.heads c.put.new.place
      (ap (λ (r : Run). is_some r.view) c.self.view_is ∙ c.requires.before_hello) c.id.ensures c.put.ensures c.in_ok-heads.ensures c.take_from.ensures.first c.take_from.ensures.view_unchanged c.take_from.ensures.id,
  tt,
)

pub returns-in_err-take_from : goal.returns-in_err-take_from
returns-in_err-take_from c = record {
  ok = search rules;
  going = search rules;
  refused = λ ms s.
      let was = subst (λ (r : Run). Stands r ms) (sym c.self.view_is) s in
      passed_on _ c.from_residual-in_err-take_from.result c.in_err-take_from.field-0.0 c.from_residual-in_err-take_from.ensures.1
      (λ ne. let h = c.in_err-take_from.ensures.refused ms was ne in (h.0, h.2, refl));
  spent = passed_on _ c.from_residual-in_err-take_from.result c.in_err-take_from.field-0.0 c.from_residual-in_err-take_from.ensures.1
      (λ ne. (c.in_err-take_from.ensures.spent ne, c.in_err-take_from.ensures.view_unchanged ∙ ap (λ (r : Run). r.view) c.self.view_is));
  id = c.take_from.ensures.id ∙ ap (λ (r : Run). r.id) c.self.view_is;
}

pub returns : goal.returns
returns c = record {
  ok = λ ms s.
      let m = c.args.message.now in
      let r = c.in_ok-take_from.ensures.ok ms (subst (λ (r : Run). Stands r ms) (sym c.self.view_is) s) in (
        r.0,
        r.1,
        c.in_ok-push_lines.ensures
            ∙ ap (λ (es : List Event). c.args.out.now ++ lines es) (c.as_slice.ensures ∙ r.2 ∙ ap (λ (es : List Event). es ++ events_of c.self.inside.run.id (view_of ms) m.body) c.clear.ensures)
            ∙ ap (λ (r : Run). c.args.out.now ++ lines (events_of r.id (view_of ms) m.body)) c.self.view_is,
      );
  going = c.in_ok-take_from.ensures.unspent;
  refused = λ _ _. tt;
  spent = tt;
  id = c.take_from.ensures.id ∙ ap (λ (r : Run). r.id) c.self.view_is;
}
