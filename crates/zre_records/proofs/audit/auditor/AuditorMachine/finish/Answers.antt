use Rattle.std.proofs.Common.{refl, sym, ap, ◌∙◌, ◌++◌}
use Rattle.std.specs.Prelude.{is_some}
use Rattle.zre_outside.proofs.GatheredText.{gathers}
use Rattle.zre_commands.specs.pump.Lines.{refusal}
use Rattle.zre_records.specs.audit.Audit.{place, verdict}
use Rattle.zre_records.proofs.CommandEnding.{good_end, bad_end}
use Rattle.zre_records.proofs.audit.auditor.AuditorMachine.finish.Goals as goal

pub returns-then-branch-clause-bad : goal.returns-then-branch-clause-bad
returns-then-branch-clause-bad g c = λ o f l. sym c.if-branch.true ∙ c.in_ok-push_refusal.ensures.bad ∙ ap is_some (c.in_ok-bad_at_end.ensures o f)

pub returns-then-branch-clause-ending : goal.returns-then-branch-clause-ending
returns-then-branch-clause-ending g c = λ o f l.
    gathers _ _ _ _ (bad_end (place o) (verdict o) c.args.text.now c.push_refusal.new.out (sym c.if-branch.true ∙ c.in_ok-push_refusal.ensures.bad ∙ ap is_some (c.in_ok-bad_at_end.ensures o f))
    (c.in_ok-push_refusal.ensures.refused ∙ ap (λ b. c.args.text.now ++ refusal b) (c.in_ok-bad_at_end.ensures o f)))

pub returns-clause-bad : goal.returns-clause-bad
returns-clause-bad g c = λ o f l. sym c.if-branch.false ∙ c.in_ok-push_refusal.ensures.bad ∙ ap is_some (c.in_ok-bad_at_end.ensures o f)

pub returns-clause-ending : goal.returns-clause-ending
returns-clause-ending g c = λ o f l.
    gathers _ _ _ _ (good_end (place o) (verdict o) (verdict o) c.args.text.now c.push_refusal.new.out c.judge.new.out (sym c.if-branch.false ∙ c.in_ok-push_refusal.ensures.bad ∙ ap is_some (c.in_ok-bad_at_end.ensures o f))
    (c.in_ok-push_refusal.ensures.refused ∙ ap (λ b. c.args.text.now ++ refusal b) (c.in_ok-bad_at_end.ensures o f)) (c.in_ok-judge.ensures o f) refl)
