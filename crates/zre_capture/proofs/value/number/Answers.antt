use Rattle.std.proofs.Common.{arith, sym, ap, ◌∙◌}
use Rattle.zre_capture.proofs.FieldTexts.{number_of-decimal, number_of-some, none_spec}
use Rattle.zre_capture.specs.Values.{number_of}
use Rattle.zre_capture.proofs.value.number.Goals as goal

pub returns-in_err-n : goal.returns-in_err-n
returns-in_err-n c =
    c.from_residual.ensures ∙ none_spec (number_of c.args.field.now)
    (λ v e. let t = number_of-some c.args.field.now v e in c.in_err-n.ensures.back v t.fits (sym t.text))

pub returns : goal.returns
returns c =
    sym (ap number_of c.in_ok-n.ensures.value ∙ number_of-decimal c.in_ok-n.n (omega arith))
