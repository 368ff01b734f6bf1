use Rattle.std.proofs.Common.{sym, ap, ◌∙◌}
use Rattle.std.proofs.lemmas.List.{nil_from_length}
use Rattle.zre_capture.specs.Values.{number_of, reading_after}
use Rattle.zre_capture.proofs.FieldTexts.{none_spec}
use Rattle.zre_capture.proofs.ReadingDifferences.{more-some, more-checked, no_field}
use Rattle.zre_capture.proofs.value.reading_after.Goals as goal

pub returns-in_err-first : goal.returns-in_err-first
returns-in_err-first c =
    let nil = nil_from_length c.args.field.now c.in_err-first.ensures.cases in
    c.from_residual.ensures ∙ none_spec (reading_after c.args.before c.args.field.now) (λ v e. absurd (no_field c.args.before v (ap (reading_after c.args.before) (sym nil) ∙ e)))

pub returns-in_err-number : goal.returns-in_err-number
returns-in_err-number c =
    let cut = c.in_ok-first.ensures.cases in
    c.from_residual-in_err-number.ensures ∙ none_spec (reading_after c.args.before c.args.field.now)
    (λ v e. let t = more-some c.args.before v c.in_ok-first.first.now c.in_ok-first.digits.now c.if-first-eq45.false (ap (reading_after c.args.before) (sym cut.0) ∙ e) in
    let no = c.in_err-number.ensures ∙ ap number_of cut.0 ∙ t.number in absurd (cc no))

pub returns : goal.returns
returns c =
    let cut = c.in_ok-first.ensures.cases in
    more-checked c.args.before c.in_ok-number.field-0 c.in_ok-first.first.now c.in_ok-first.digits.now c.checked_add.result c.if-first-eq45.false
    (sym (c.in_ok-number.ensures ∙ ap number_of cut.0)) c.checked_add.ensures ∙ ap (reading_after c.args.before) (sym cut.0)
