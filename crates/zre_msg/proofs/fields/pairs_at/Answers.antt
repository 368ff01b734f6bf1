use Rattle.std.proofs.lemmas.Result.{err_from_is_err_and}
use Rattle.zre_msg.specs.Reading.{pair_at}
use Rattle.zre_msg.proofs.FieldByField.{goes_on, ends, is_done}
use Rattle.zre_msg.proofs.fields.pairs_at.Goals as goal

pub returns-in_err-name : goal.returns-in_err-name
returns-in_err-name c =
    let p = err_from_is_err_and c.from_residual.result c.from_residual.ensures.1 in
    rw (p.1, p.2) (ends c.in_err-name.field-0.0 pair_at c.each.pairs c.args.count c.each.counter c.each.rest.now _ c.each-test.true c.in_err-name.ensures c.each.invariant)

pub each-preserved : goal.each-preserved
each-preserved c =
    rw c.in_ok-push.ensures.ok
    (goes_on pair_at c.each.pairs c.args.count c.each.counter c.each.rest.now (c.in_ok-name.name, c.in_ok-name.value) c.in_ok-name.later.now _ c.each-test.true c.in_ok-name.ensures c.each.invariant)

pub returns : goal.returns
returns c = is_done pair_at c.each.pairs c.args.count c.each.counter c.each.rest.now _ c.each-test.false c.each.invariant
