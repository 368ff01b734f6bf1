use Rattle.std.proofs.Common.{not, refl, ap, ◌∙◌}
use Rattle.zre_commands.proofs.follow.MessageSteps.{took_none, took_next, took_last, take_next}
use Rattle.zre_commands.proofs.follow.taking.take_items.Goals as goal

pub loop-item-init : goal.loop-item-init
loop-item-init c = record {
  took = λ ms s. took_none _ ms c.args.run.now c.args.out.now s c.requires;
  going = c.requires;
  same = refl;
}

pub returns-then-not-branch-clause-took : goal.returns-then-not-branch-clause-took
returns-then-not-branch-clause-took c = λ ms s.
    let inv = c.loop-item.invariant in
    let t = inv.took ms s in
    let u = rw inv.same at (c.in_ok-take_item.ensures.took _ (t.stands inv.going)) in
    took_last _ ms c.args.items.now c.loop-item.item-index c.item-item.result c.loop-item.run c.take_item.new.run _ c.loop-item.out c.take_item.new.out (take_next c.args.items.now c.loop-item.item-index c.item-item.result c.loop-item-test.true c.item-item.is) t inv.going u (c.in_ok-take_item.ensures.spent ∙ ap not c.if-not-branch.true)

pub loop-item-preserved : goal.loop-item-preserved
loop-item-preserved c =
    let inv = c.loop-item.invariant in
    record {
      took = λ ms s.
          let t = inv.took ms s in
          let u = rw inv.same at (c.in_ok-take_item.ensures.took _ (t.stands inv.going)) in
          took_next _ ms c.args.items.now c.loop-item.item-index c.item-item.result c.loop-item.run c.take_item.new.run _ c.loop-item.out c.take_item.new.out (take_next c.args.items.now c.loop-item.item-index c.item-item.result c.loop-item-test.true c.item-item.is) t inv.going u;
      going = c.in_ok-take_item.ensures.spent ∙ ap not c.if-not-branch.false;
      same = c.in_ok-take_item.ensures.same ∙ inv.same;
    }
