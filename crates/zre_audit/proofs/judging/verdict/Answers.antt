use Rattle.std.proofs.Common.{ℕ, sym, ap, ◌∙◌, option_map}
use Rattle.zre_audit.specs.declared.excess.Excess.{Excess}
use Rattle.zre_audit.specs.declared.verdicts.Verdict.TheVariants.{Yes}
use Rattle.zre_audit.proofs.JudgedIsAgreed.{yes_agree}
use Rattle.zre_audit.proofs.WatchAfterEntry.{first_found, first_judged, second_judged, yes_judged, is_right}
use Rattle.zre_audit.proofs.judging.verdict.Goals as goal

abbrev numbers : Excess → ℕ × ℕ × ℕ
numbers e = (e.number, e.more, e.fewer)

pub returns-in-Some-clause-exact : goal.returns-in-Some-clause-exact
returns-in-Some-clause-exact c = λ g k J K w v.
    c.against.ensures ∙ first_judged g k J K (numbers c.in-Some.first) (sym (first_found g k J K c.args.a.now c.args.b.now w v) ∙ sym c.in_ok-first.ensures ∙ ap (option_map numbers) c.in-Some.is)

pub returns-in-Some-clause-judges : goal.returns-in-Some-clause-judges
returns-in-Some-clause-judges c = λ g k J K w v. is_right g k J K c.against.result (returns-in-Some-clause-exact c g k J K w v)

pub returns-in-Some-clause-yes : goal.returns-in-Some-clause-yes
returns-in-Some-clause-yes c = λ g k J K w v. yes_agree g k J K c.against.result (returns-in-Some-clause-judges c g k J K w v)

pub returns-in-Some-2-clause-exact : goal.returns-in-Some-2-clause-exact
returns-in-Some-2-clause-exact c = λ g k J K w v.
    c.against-in-Some-2.ensures ∙ second_judged g k J K (numbers c.in-Some-2.second)
    (sym (first_found g k J K c.args.a.now c.args.b.now w v) ∙ sym c.in_ok-first.ensures ∙ ap (option_map numbers) c.in_default.is)
    (sym (first_found k g K J c.args.b.now c.args.a.now v w) ∙ sym c.in_ok-second.ensures ∙ ap (option_map numbers) c.in-Some-2.is)

pub returns-in-Some-2-clause-judges : goal.returns-in-Some-2-clause-judges
returns-in-Some-2-clause-judges c = λ g k J K w v. is_right g k J K c.against-in-Some-2.result (returns-in-Some-2-clause-exact c g k J K w v)

pub returns-in-Some-2-clause-yes : goal.returns-in-Some-2-clause-yes
returns-in-Some-2-clause-yes c = λ g k J K w v. yes_agree g k J K c.against-in-Some-2.result (returns-in-Some-2-clause-judges c g k J K w v)

pub returns-clause-exact : goal.returns-clause-exact
returns-clause-exact c = λ g k J K w v.
    yes_judged g k J K (sym (first_found g k J K c.args.a.now c.args.b.now w v) ∙ sym c.in_ok-first.ensures ∙ ap (option_map numbers) c.in_default.is)
    (sym (first_found k g K J c.args.b.now c.args.a.now v w) ∙ sym c.in_ok-second.ensures ∙ ap (option_map numbers) c.in_default-2.is)

pub returns-clause-judges : goal.returns-clause-judges
returns-clause-judges c = λ g k J K w v. is_right g k J K Yes (returns-clause-exact c g k J K w v)

pub returns-clause-yes : goal.returns-clause-yes
returns-clause-yes c = λ g k J K w v. yes_agree g k J K Yes (returns-clause-judges c g k J K w v)
