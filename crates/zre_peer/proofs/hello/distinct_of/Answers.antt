use Rattle.std.proofs.Common.{refl, sym, ap, ◌∙◌}
use Rattle.zre_peer.specs.Members.{are_few, distinct, with_group}
use Rattle.zre_peer.proofs.PassedLimitsStay.{many_ahead, many_next}
use Rattle.zre_peer.proofs.hello.distinct_of.Goals as goal

pub returns-then-not-can_add-clause-refused : goal.returns-then-not-can_add-clause-refused
returns-then-not-can_add-clause-refused c = λ _. (
  refl,
  many_ahead c.loop-group.found (distinct c.args.groups.now) c.as_slice-group-items.result.now c.loop-group.group-index c.group-item.result c.loop-group-test.true c.group-item.is c.loop-group.invariant.0
      (ap (λ g. are_few (with_group c.loop-group.found g)) (sym c.as_slice.ensures) ∙ sym c.can_add.ensures ∙ c.if-not-can_add.true),
)

pub loop-group-preserved : goal.loop-group-preserved
loop-group-preserved c =
    let is = c.as_slice.ensures in
    many_next c.loop-group.found c.insert.new.self (distinct c.args.groups.now) c.as_slice-group-items.result.now c.loop-group.group-index c.group-item.result c.loop-group-test.true c.group-item.is c.loop-group.invariant.0
    (c.in_ok-insert.ensures.ok ∙ ap (λ g. with_group c.loop-group.found g) c.as_slice-in-loop-group.ensures)
    (ap (λ g. are_few (with_group c.loop-group.found g)) (sym is) ∙ sym c.can_add.ensures ∙ c.if-not-can_add.false)
