use Rattle.std.proofs.Common.{sym, ◌∙◌, arith}
use Rattle.zre_values.proofs.DecimalNumbers.{first_cut}
use Rattle.zre_capture.proofs.direct.first_number.Goals as goal

pub returns-then-first-eq48 : goal.returns-then-first-eq48
returns-then-first-eq48 c =
    first_cut c.args.text.now c.in_ok-first.first.now c.in_ok-first.later.now 0 c.in_ok-first.ensures.cases.0 (sym c.if-not-is_ascii_digit.ensures.value) (omega (arith, c.if-first-eq48.true))

pub returns : goal.returns
returns c =
    first_cut c.args.text.now c.in_ok-first.first.now c.in_ok-first.later.now c.from.result c.in_ok-first.ensures.cases.0 (sym c.if-not-is_ascii_digit.ensures.value) c.from.ensures
    ∙ sym c.more_digits.ensures
