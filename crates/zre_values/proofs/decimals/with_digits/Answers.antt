use Rattle.std.proofs.Common.{◌≡◌, ◌∙◌, ◌+◌, ◌-◌, ◌*◌, ◌<◌, ◌^◌, ℕ, true, false, get_or, Some, sym, ap, arith}
use Rattle.std.specs.Char.{is_ascii_digit}
use Rattle.std.proofs.lemmas.Fmt.{decimal_injective}
use Rattle.zre_values.proofs.DecimalNumbers.{next, one_more, whole}
use Rattle.zre_values.proofs.decimals.with_digits.Goals as goal

pub returns-then-not-is_ascii_digit-clause-back : goal.returns-then-not-is_ascii_digit-clause-back
returns-then-not-is_ascii_digit-clause-back c = λ n lt e.
    let f = next c.args.front c.args.later.now c.loop-octet.octet-index c.loop-octet.n n c.loop-octet-test.true c.loop-octet.invariant.fits lt c.loop-octet.invariant.digits e in
    let is : is_ascii_digit (get_or c.args.later.now c.loop-octet.octet-index 0) ≡ true = f.digit in
    let isnt : is_ascii_digit (get_or c.args.later.now c.loop-octet.octet-index 0) ≡ false = sym c.if-not-is_ascii_digit.ensures.value in
    absurd cc

pub returns-in_err-checked_mul-clause-back : goal.returns-in_err-checked_mul-clause-back
returns-in_err-checked_mul-clause-back c = λ n lt e.
    let f = next c.args.front c.args.later.now c.loop-octet.octet-index c.loop-octet.n n c.loop-octet-test.true c.loop-octet.invariant.fits lt c.loop-octet.invariant.digits e in
    absurd (omega (arith, f.fits, lt, c.in_err-checked_mul.ensures))

pub returns-in_err-n-clause-back : goal.returns-in_err-n-clause-back
returns-in_err-n-clause-back c = λ n lt e.
    let f = next c.args.front c.args.later.now c.loop-octet.octet-index c.loop-octet.n n c.loop-octet-test.true c.loop-octet.invariant.fits lt c.loop-octet.invariant.digits e in
    absurd (omega (arith, f.fits, f.low, lt, c.in_err-n.ensures, c.in_ok-checked_mul.ensures.1, c.from.ensures))

pub loop-octet-preserved : goal.loop-octet-preserved
loop-octet-preserved c =
    let digit : is_ascii_digit (get_or c.args.later.now c.loop-octet.octet-index 0) ≡ true = sym c.if-not-is_ascii_digit.ensures.value in
    let is : c.in_ok-n.n ≡ c.loop-octet.n * 10 + (get_or c.args.later.now c.loop-octet.octet-index 0 - 48) = omega (arith, c.in_ok-n.ensures.1, c.in_ok-checked_mul.ensures.1, c.from.ensures) in
    let small : c.in_ok-n.n < 2 ^ 64 = omega (arith, c.in_ok-n.ensures.0, c.in_ok-n.ensures.1) in
    record {
      digits = one_more c.args.front c.args.later.now c.loop-octet.octet-index c.loop-octet.n c.in_ok-n.n c.loop-octet-test.true c.loop-octet.invariant.some digit is small c.loop-octet.invariant.digits;
      some = omega (arith, is, c.loop-octet.invariant.some);
      fits = small;
    }

pub returns-clause-value : goal.returns-clause-value
returns-clause-value c = whole c.args.front c.args.later.now c.loop-octet.octet-index c.loop-octet.n c.loop-octet-test.false c.loop-octet.invariant.digits

pub returns-clause-back : goal.returns-clause-back
returns-clause-back c = λ n lt e.
    let read = whole c.args.front c.args.later.now c.loop-octet.octet-index c.loop-octet.n c.loop-octet-test.false c.loop-octet.invariant.digits in
    ap (λ (k : ℕ). Some k) (decimal_injective c.loop-octet.n n c.loop-octet.invariant.fits lt (read ∙ sym e))
