use Rattle.std.proofs.Common.{◌≤◌, ◌<◌, length, sym, arith}
use Rattle.std.specs.Option.{option_copied}
use Rattle.std.proofs.lemmas.Bool.{eqb-false, eqb-true}
use Rattle.zre_zmtp.proofs.ReadyProperties.{value-stops, value-goes_on, value-ends}
use Rattle.zre_zmtp.proofs.command.value_in.Goals as goal

pub returns-in_err-name : goal.returns-in_err-name
returns-in_err-name c =
    let some : 0 < length c.loop-left.left.now = omega (arith, eqb-false _ _ (sym c.loop-left-test.ensures)) in
    rw c.from_residual.ensures
    (value-stops c.loop-left.left.now c.args.wanted.now (option_copied c.loop-left.found) _ some c.in_err-name.ensures c.loop-left.invariant)

pub loop-left-preserved : goal.loop-left-preserved
loop-left-preserved c =
    let some : 0 < length c.loop-left.left.now = omega (arith, eqb-false _ _ (sym c.loop-left-test.ensures)) in
    let p = c.in_ok-name.ensures in
    rw p.2
    (value-goes_on c.loop-left.left.now c.args.wanted.now c.in_ok-name.name.now c.in_ok-name.value.now (option_copied c.loop-left.found)
    (option_copied c.first_value-found.result) _ some p.0 p.1 c.first_value-found.ensures c.loop-left.invariant)

pub returns : goal.returns
returns c =
    let none : length c.loop-left.left.now ≤ 0 = omega (arith, eqb-true _ _ (sym c.loop-left-test.ensures)) in
    value-ends c.loop-left.left.now c.args.wanted.now (option_copied c.loop-left.found) _ none c.loop-left.invariant
