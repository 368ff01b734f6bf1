use Rattle.std.proofs.Common.{sym, ◌∙◌}
use Rattle.zre_console.proofs.lines.CommandByFields.{order-one, order-two, order-three}
use Rattle.zre_console.proofs.lines.line.order_in.Goals as goal

pub returns-in_default : goal.returns-in_default
returns-in_default c = c.word_alone.ensures ∙ sym (order-one c.args.line.now c.in_default.ensures.none)

pub returns-in_default-split_once : goal.returns-in_default-split_once
returns-in_default-split_once c =
    rw (order-two c.args.line.now c.in-Some.word.now c.in-Some.rest.now c.in-Some.ensures.parts c.in-Some.ensures.first c.in_default-split_once.ensures.none) c.with_group.ensures

pub returns : goal.returns
returns c =
    rw (order-three c.args.line.now c.in-Some.word.now c.in-Some.rest.now c.in-Some-split_once.to.now c.in-Some-split_once.text.now
    c.in-Some.ensures.parts c.in-Some.ensures.first c.in-Some-split_once.ensures.parts c.in-Some-split_once.ensures.first) c.with_text.ensures
