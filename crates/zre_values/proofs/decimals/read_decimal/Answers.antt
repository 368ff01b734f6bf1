use Rattle.std.proofs.Common.{◌≡◌, ◌∙◌, ◌==◌, ℕ, true, false, length, Some, sym, ap, arith}
use Rattle.std.specs.Char.{is_ascii_digit}
use Rattle.std.proofs.lemmas.Bool.{eqb-true, eq-eqb}
use Rattle.zre_values.proofs.DecimalNumbers.{begins, has_digits, zero_alone, first_cut, found_whole}
use Rattle.zre_values.proofs.decimals.read_decimal.Goals as goal

pub returns-in_err-first-clause-back : goal.returns-in_err-first-clause-back
returns-in_err-first-clause-back c = λ n lt e. absurd (has_digits c.args.text.now n c.in_err-first.ensures.cases lt e)

pub returns-then-not-is_ascii_digit-clause-back : goal.returns-then-not-is_ascii_digit-clause-back
returns-then-not-is_ascii_digit-clause-back c = λ n lt e.
    let b = begins c.args.text.now c.in_ok-first.first.now c.in_ok-first.later.now n c.in_ok-first.ensures.cases.0 lt e in
    let is : is_ascii_digit c.in_ok-first.first.now ≡ true = b.digit in
    let isnt : is_ascii_digit c.in_ok-first.first.now ≡ false = sym c.if-not-is_ascii_digit.ensures.value in
    absurd cc

pub returns-then-is_empty-clause-value : goal.returns-then-is_empty-clause-value
returns-then-is_empty-clause-value c =
    zero_alone c.args.text.now c.in_ok-first.first.now c.in_ok-first.later.now c.in_ok-first.ensures.cases.0 (omega (arith, c.if-first-eq48.true))
    (eqb-true _ _ (sym c.is_empty.ensures ∙ c.if-is_empty.true))

pub returns-then-is_empty-clause-back : goal.returns-then-is_empty-clause-back
returns-then-is_empty-clause-back c = λ n lt e.
    let b = begins c.args.text.now c.in_ok-first.first.now c.in_ok-first.later.now n c.in_ok-first.ensures.cases.0 lt e in
    ap (λ (k : ℕ). Some k) (sym (b.alone (omega (arith, c.if-first-eq48.true))).1)

pub returns-else-is_empty-clause-back : goal.returns-else-is_empty-clause-back
returns-else-is_empty-clause-back c = λ n lt e.
    let b = begins c.args.text.now c.in_ok-first.first.now c.in_ok-first.later.now n c.in_ok-first.ensures.cases.0 lt e in
    let none : length c.in_ok-first.later.now ≡ 0 = ap length (b.alone (omega (arith, c.if-first-eq48.true))).0 in
    let is : (length c.in_ok-first.later.now == 0) ≡ true = eq-eqb _ _ none in
    let isnt : (length c.in_ok-first.later.now == 0) ≡ false = sym c.is_empty.ensures ∙ c.if-is_empty.false in
    absurd cc

pub returns-clause-value : goal.returns-clause-value
returns-clause-value c =
    let cut = first_cut c.args.text.now c.in_ok-first.first.now c.in_ok-first.later.now c.from.result c.in_ok-first.ensures.cases.0 (sym c.if-not-is_ascii_digit.ensures.value) c.from.ensures in
    found_whole c.with_digits.result c.args.text.now c.from.result c.in_ok-first.later.now cut c.with_digits.ensures.value

pub returns-clause-back : goal.returns-clause-back
returns-clause-back c = λ n lt e.
    let cut = first_cut c.args.text.now c.in_ok-first.first.now c.in_ok-first.later.now c.from.result c.in_ok-first.ensures.cases.0 (sym c.if-not-is_ascii_digit.ensures.value) c.from.ensures in
    c.with_digits.ensures.back n lt (sym e ∙ cut)
