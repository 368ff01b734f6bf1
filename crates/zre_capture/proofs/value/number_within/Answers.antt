use Rattle.std.proofs.Common.{arith, sym, ap, ◌∙◌}
use Rattle.zre_capture.specs.Values.{number_of, number_within}
use Rattle.zre_capture.proofs.FieldTexts.{none_spec, number_of-decimal, number_of-some}
use Rattle.zre_capture.proofs.ReadingDifferences.{within-some, within-decimal, within-number}
use Rattle.zre_capture.proofs.value.number_within.Goals as goal

pub returns-in_err-n-clause-number : goal.returns-in_err-n-clause-number
returns-in_err-n-clause-number c =
    c.from_residual.ensures ∙ none_spec (number_within c.args.least c.args.most c.args.field.now)
    (λ v e. let t = within-some c.args.least c.args.most c.args.field.now v e in let below = t.below in
    c.in_err-n.ensures ∙ ap number_of (sym t.text) ∙ number_of-decimal v (omega (arith, below)))

pub returns-then-n-least-clause-number : goal.returns-then-n-least-clause-number
returns-then-n-least-clause-number c =
    none_spec (number_within c.args.least c.args.most c.args.field.now)
    (λ v e. let t = within-number c.args.least c.args.most c.in_ok-n.n v c.args.field.now (omega arith) (sym c.in_ok-n.ensures) e in let above = t.above in absurd (omega (arith, above)))

pub returns-then-most-n-clause-number : goal.returns-then-most-n-clause-number
returns-then-most-n-clause-number c =
    none_spec (number_within c.args.least c.args.most c.args.field.now)
    (λ v e. let t = within-number c.args.least c.args.most c.in_ok-n.n v c.args.field.now (omega arith) (sym c.in_ok-n.ensures) e in let below = t.below in absurd (omega (arith, below)))

pub returns-clause-number : goal.returns-clause-number
returns-clause-number c =
    let t = number_of-some c.args.field.now c.in_ok-n.n (sym c.in_ok-n.ensures) in
    sym (ap (number_within c.args.least c.args.most) (sym t.text) ∙ within-decimal c.args.least c.args.most c.in_ok-n.n t.fits (omega arith) (omega arith))
