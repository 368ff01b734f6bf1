use Rattle.std.proofs.Common.{◌∙◌, arith, rules}
use Rattle.std.proofs.lemmas.Bool.{OnTrue_at}
use Rattle.zre_outside.proofs.AnswersThatAreErrors.{on_err}
use Rattle.zre_outside.proofs.GatheredText.{through_none}
use Rattle.zre_net.proofs.MovesInTurn.{none_came, with_next, one_came, all_came}
use Rattle.zre_records.proofs.simulate.LinesOfMoves.{came_on, front_of, front_on}
use Rattle.zre_records.proofs.simulate.answer.write_moves.Goals as goal

pub lines-init : goal.lines-init
lines-init g c = record {
  runs = none_came _ _ (c.in_ok-network.ensures, through_none _ _);
  later = omega arith;
}

pub lines-preserved : goal.lines-preserved
lines-preserved g c =
    let p = c.lines.invariant.runs in
    let good = c.if-not-branch.false in
    let told = OnTrue_at good (c.in_ok-take.ensures.told p.came p.is.0) in
    record {
      runs = one_came _ _ _ _ _ _ c.in-Some.one p c.in_ok-one.ensures c.in-Some.is
          (OnTrue_at good (c.in_ok-take.ensures.runs p.came p.is.0), came_on _ _ _ _ _ _ p.came c.in-Some.one c.as_slice.result.now (c.as_slice.ensures ∙ told) p.is.1 c.in_ok-put_told.ensures.text.0);
      later = omega (arith, c.lines.invariant.later, c.put_told.ensures.later);
    }

pub returns-clause-text : goal.returns-clause-text
returns-clause-text g c = ((all_came _ _ _ _ _ c.lines.invariant.runs c.in_ok-one.ensures c.in_default.is).1, tt)

pub returns-in_err-one-clause-text : goal.returns-in_err-one-clause-text
returns-in_err-one-clause-text g c =
    let p = c.lines.invariant.runs in
    (search rules, on_err c.from_residual-in_err-one.result (front_of _ _ _ _ c.args.moves p.came c.lines.moves p.all p.is.1))

pub returns-then-not-branch-clause-text : goal.returns-then-not-branch-clause-text
returns-then-not-branch-clause-text g c =
    let p = c.lines.invariant.runs in
    (tt, front_of _ _ _ _ c.args.moves p.came c.lines.moves p.all p.is.1)

pub returns-in_err-take-clause-text : goal.returns-in_err-take-clause-text
returns-in_err-take-clause-text g c =
    let p = c.lines.invariant.runs in
    (search rules, on_err c.from_residual-in_err-take.result (front_of _ _ _ _ c.args.moves p.came c.lines.moves p.all p.is.1))

pub returns-in_err-put_told-clause-text : goal.returns-in_err-put_told-clause-text
returns-in_err-put_told-clause-text g c =
    let p = c.lines.invariant.runs in
    let told = OnTrue_at c.if-not-branch.false (c.in_ok-take.ensures.told p.came p.is.0) in (
      search rules,
      on_err c.from_residual-in_err-put_told.result
          (front_on _ _ _ _ _ c.args.moves p.came c.next.new.self c.in-Some.one c.as_slice.result.now
          (with_next _ _ _ _ _ c.in-Some.one p c.in_ok-one.ensures c.in-Some.is) (c.as_slice.ensures ∙ told) p.is.1 c.in_err-put_told.ensures.text.1),
    )
