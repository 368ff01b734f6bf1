use Rattle.std.proofs.Common.{◌≡◌, ◌-◌, ◌∷◌, arith, sym, ◌∙◌}
use Rattle.std.proofs.lemmas.Option.{same_Some}
use Rattle.zre_capture.specs.Values.{reading_after}
use Rattle.zre_capture.proofs.FieldTexts.{none_spec}
use Rattle.zre_capture.proofs.ReadingDifferences.{less-some, less-number}
use Rattle.zre_capture.proofs.value.reading_less.Goals as goal

pub returns-in_err-n : goal.returns-in_err-n
returns-in_err-n c =
    c.from_residual.ensures ∙ none_spec (reading_after c.args.before (45 ∷ c.args.digits.now))
    (λ v e. let t = less-some c.args.before v c.args.digits.now (omega arith) e in let no = c.in_err-n.ensures ∙ t.number in absurd (cc no))

pub returns-then-n-eq0 : goal.returns-then-n-eq0
returns-then-n-eq0 c =
    none_spec (reading_after c.args.before (45 ∷ c.args.digits.now))
    (λ v e. let t = less-some c.args.before v c.args.digits.now (omega arith) e in let less = t.less in
    let same : c.in_ok-n.n ≡ c.args.before - v = same_Some _ _ (c.in_ok-n.ensures ∙ t.number) in absurd (omega (arith, less, same)))

pub returns-then-before-n : goal.returns-then-before-n
returns-then-before-n c =
    none_spec (reading_after c.args.before (45 ∷ c.args.digits.now))
    (λ v e. let t = less-some c.args.before v c.args.digits.now (omega arith) e in let less = t.less in
    let same : c.in_ok-n.n ≡ c.args.before - v = same_Some _ _ (c.in_ok-n.ensures ∙ t.number) in absurd (omega (arith, less, same)))

pub returns : goal.returns
returns c = sym (less-number c.args.before c.in_ok-n.n c.args.digits.now (omega arith) (omega arith) (omega arith) (sym c.in_ok-n.ensures))
