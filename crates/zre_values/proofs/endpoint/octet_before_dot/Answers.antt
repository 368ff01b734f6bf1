use Rattle.std.proofs.Common.{◌≡◌, ◌<◌, ◌^◌, ◌==◌, false, ℕ, Some, None, arith, inl}
use Rattle.std.specs.Prelude.{decimal}
use Rattle.std.specs.List.{list_any}
use Rattle.zre_values.proofs.Digits.{decimal-lacks}
use Rattle.zre_values.proofs.endpoint.octet_before_dot.Goals as goal

no_dot : (n : ℕ) → n < 2 ^ 8 → list_any (λ b. b == 46) (decimal n) ≡ false
no_dot n lt = decimal-lacks 46 n (omega (arith, lt)) (inl (omega arith))

pub returns-in_default-clause-back : goal.returns-in_default-clause-back
returns-in_default-clause-back c = λ n y lt e. c.in_default.ensures.back (decimal n) y (no_dot n lt) e

pub returns-in_err-n-clause-back : goal.returns-in_err-n-clause-back
returns-in_err-n-clause-back c = λ n y lt e.
    let parts = c.in-Some.ensures.back (decimal n) y (no_dot n lt) e in
    let read : None ≡ Some n = c.in_err-n.ensures.back n lt parts.0 in
    absurd cc

pub returns-clause-back : goal.returns-clause-back
returns-clause-back c = λ n y lt e.
    let parts = c.in-Some.ensures.back (decimal n) y (no_dot n lt) e in
    let read : Some c.in_ok-n.n ≡ Some n = c.in_ok-n.ensures.back n lt parts.0 in
    (cc read, parts.1)
