use Rattle.std.proofs.Common.{length, leb, refl, sym, ap, ◌∙◌}
use Rattle.zre_peer.specs.Members.{first_named, with_header}
use Rattle.zre_peer.proofs.PassedLimitsStay.{named_ahead, named_next}
use Rattle.zre_peer.proofs.hello.first_named_of.Goals as goal

pub returns-then-not-can_add-clause-refused : goal.returns-then-not-can_add-clause-refused
returns-then-not-can_add-clause-refused c = λ _.
    let h = c.header-item.result in (
      refl,
      named_ahead c.loop-header.found (first_named c.args.headers.now) c.as_slice-header-items.result.now c.loop-header.header-index h c.loop-header-test.true c.header-item.is c.loop-header.invariant.0
          (ap (λ n. leb (length (with_header c.loop-header.found (n, h.1))) 256) (sym c.as_slice-name.ensures) ∙ sym (c.can_add.ensures h.1) ∙ c.if-not-can_add.true),
    )

pub loop-header-preserved : goal.loop-header-preserved
loop-header-preserved c =
    let h = c.header-item.result in
    named_next c.loop-header.found c.insert.new.self (first_named c.args.headers.now) c.as_slice-header-items.result.now c.loop-header.header-index h c.loop-header-test.true c.header-item.is c.loop-header.invariant.0
    (c.in_ok-insert.ensures.ok ∙ (λ i. with_header c.loop-header.found (c.as_slice-name.ensures i, c.as_slice-value.ensures i)))
    (ap (λ n. leb (length (with_header c.loop-header.found (n, h.1))) 256) (sym c.as_slice-name.ensures) ∙ sym (c.can_add.ensures h.1) ∙ c.if-not-can_add.false)
