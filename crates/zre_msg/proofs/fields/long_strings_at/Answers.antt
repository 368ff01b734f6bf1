use Rattle.zre_msg.specs.Reading.{long_string_at}
use Rattle.zre_msg.proofs.FieldByField.{goes_on, ends, is_done}
use Rattle.zre_msg.proofs.fields.long_strings_at.Goals as goal

pub returns-in-Err : goal.returns-in-Err
returns-in-Err c = ends c.in-Err.stop long_string_at c.each.strings c.args.count c.each.counter c.each.rest.now _ c.each-test.true c.in-Err.ensures c.each.invariant

pub each-preserved : goal.each-preserved
each-preserved c =
    rw c.in_ok-push.ensures.ok
    (goes_on long_string_at c.each.strings c.args.count c.each.counter c.each.rest.now c.in-Ok.found.0 c.in-Ok.found.1.now _ c.each-test.true c.in-Ok.ensures c.each.invariant)

pub returns : goal.returns
returns c = is_done long_string_at c.each.strings c.args.count c.each.counter c.each.rest.now _ c.each-test.false c.each.invariant
