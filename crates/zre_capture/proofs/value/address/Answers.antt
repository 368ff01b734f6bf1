use Rattle.std.proofs.Common.{arith, rules, sym, ap, ◌∙◌}
use Rattle.zre_capture.proofs.FieldTexts.{address_of-text, address_of-some, none_spec}
use Rattle.zre_capture.specs.Values.{address_of}
use Rattle.zre_capture.proofs.value.address.Goals as goal

pub returns-in_err-host : goal.returns-in_err-host
returns-in_err-host c =
    c.from_residual.ensures ∙ none_spec (address_of c.args.field.now)
    (λ v e. let t = address_of-some c.args.field.now v e in absurd (c.in_err-host.ensures.back v t.is (sym t.text)))

pub returns : goal.returns
returns c =
    sym (ap address_of c.in_ok-host.ensures.value ∙ address_of-text c.in_ok-host.host (record { four = omega arith; octets = search rules }))
