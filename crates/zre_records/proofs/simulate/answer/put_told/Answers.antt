use Rattle.std.proofs.Common.{arith, rules}
use Rattle.zre_outside.proofs.AnswersThatAreErrors.{on_err}
use Rattle.zre_records.proofs.simulate.GatheredLines.{one_came, front_came, front_with}
use Rattle.zre_records.proofs.simulate.answer.put_told.Goals as goal

pub loop-one-preserved : goal.loop-one-preserved
loop-one-preserved g c = record {
  came = one_came _ _ _ _ _ _ _ c.args.told.now c.loop-one.one-index c.one-item.result c.loop-one-test.true c.one-item.is c.loop-one.invariant.came c.in_ok-push_told.ensures c.in_ok-write_much.ensures.through;
  later = omega (arith, c.loop-one.invariant.later, c.write_much.ensures.later);
}

pub returns-in_err-push_told-clause-text : goal.returns-in_err-push_told-clause-text
returns-in_err-push_told-clause-text g c = (search rules, on_err c.from_residual.result (front_came _ _ _ _ c.args.told.now c.loop-one.one-index c.loop-one.invariant.came))

pub returns-in_err-write_much-clause-text : goal.returns-in_err-write_much-clause-text
returns-in_err-write_much-clause-text g c = (
  search rules,
  on_err c.from_residual-in_err-write_much.result
      (front_with _ _ _ _ _ _ c.args.told.now c.loop-one.one-index c.one-item.result c.loop-one-test.true c.one-item.is c.loop-one.invariant.came c.in_ok-push_told.ensures c.in_err-write_much.ensures.front),
)
