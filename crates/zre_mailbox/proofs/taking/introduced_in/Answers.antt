use Rattle.std.proofs.Common.{Some, None, sym, ◌∙◌}
use Rattle.zre_mailbox.proofs.ConnAfterOctets.{introduced_next}
use Rattle.zre_mailbox.proofs.taking.introduced_in.Goals as goal

pub returns-in-Some : goal.returns-in-Some
returns-in-Some c =
    sym (c.loop-item.invariant ∙ introduced_next c.args.items.now c.loop-item.item-index c.item-item.result (Some c.in-Some.peer) c.loop-item-test.true c.item-item.is (sym c.in-Some.is ∙ c.introduced_by.ensures))

pub loop-item-preserved : goal.loop-item-preserved
loop-item-preserved c =
    c.loop-item.invariant ∙ introduced_next c.args.items.now c.loop-item.item-index c.item-item.result None c.loop-item-test.true c.item-item.is (sym c.in_default.is ∙ c.introduced_by.ensures)
