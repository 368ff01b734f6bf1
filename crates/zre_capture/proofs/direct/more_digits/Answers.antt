use Rattle.std.proofs.Common.{◌≡◌, ◌+◌, ◌-◌, ◌*◌, get_or, sym, arith}
use Rattle.zre_values.proofs.DecimalNumbers.{one_more}
use Rattle.zre_capture.proofs.OnePass.{digit-fits}
use Rattle.zre_capture.proofs.direct.more_digits.Goals as goal

pub overflow_mul-n : goal.overflow_mul-n
overflow_mul-n c =
    let d = digit-fits c.digits.i c.digits.n 48 (omega (arith, c.digits-test.true, c.min-most.ensures)) c.digits.invariant.below (omega arith) in
    omega (arith, d.fits)

pub overflow_add-n : goal.overflow_add-n
overflow_add-n c =
    let d = digit-fits c.digits.i c.digits.n (get_or c.args.later.now c.digits.i 0) (omega (arith, c.digits-test.true, c.min-most.ensures)) c.digits.invariant.below c.if-not-is_ascii_digit.ensures.cases.1 in
    omega (arith, d.fits, c.from.ensures)

pub digits-preserved : goal.digits-preserved
digits-preserved c =
    let d = digit-fits c.digits.i c.digits.n (get_or c.args.later.now c.digits.i 0) (omega (arith, c.digits-test.true, c.min-most.ensures)) c.digits.invariant.below c.if-not-is_ascii_digit.ensures.cases.1 in
    let is : c.digits.n * 10 + c.from.result ≡ c.digits.n * 10 + (get_or c.args.later.now c.digits.i 0 - 48) = omega (arith, c.from.ensures) in
    record {
      digits = one_more c.args.first c.args.later.now c.digits.i c.digits.n (c.digits.n * 10 + c.from.result) (omega (arith, c.digits-test.true, c.min-most.ensures)) c.digits.invariant.some (sym c.if-not-is_ascii_digit.ensures.value)
          is (omega (arith, is, d.fits)) c.digits.invariant.digits;
      some = omega (arith, c.digits.invariant.some);
      below = omega (arith, is, d.below);
      within = omega (arith, c.digits-test.true);
    }

pub split_at-requires : goal.split_at-requires
split_at-requires c = omega (arith, c.digits.invariant.within, c.min-most.ensures)
