use Rattle.std.proofs.Common.{◌≡◌, ◌++◌, List, ℕ, sym, subst, arith}
use Rattle.std.specs.Prelude.{OnOk}
use Rattle.std.proofs.lemmas.Fmt.{decimal_digit}
use Rattle.zre_values.proofs.texts.push_decimal.Goals as goal

pub returns-then-n-lt10-clause-ok : goal.returns-then-n-lt10-clause-ok
returns-then-n-lt10-clause-ok c =
    subst (λ (t : List ℕ). OnOk c.push.result (c.push.new.self ≡ c.args.out.now ++ t)) (sym (decimal_digit c.args.n (omega (arith, c.if-n-lt10.true)))) c.push.ensures.ok
