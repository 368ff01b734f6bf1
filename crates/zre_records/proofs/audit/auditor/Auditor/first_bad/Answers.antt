use Rattle.std.proofs.Common.{sym, ◌∙◌}
use Rattle.zre_capture.specs.declared.format.Format.TheVariants.{Second}
use Rattle.zre_records.specs.audit.Seam.{before_seam}
use Rattle.zre_records.proofs.audit.AuditorOfCaptures.{if_ok, first_marked, first_alone}
use Rattle.zre_records.proofs.audit.auditor.Auditor.first_bad.Goals as goal

pub returns-then-is_whole : goal.returns-then-is_whole
returns-then-is_whole c = λ o f e.
    if_ok c.bad.result _ _ (c.bad.ensures Second (before_seam o) f.first.reads) (λ b is. first_marked c.args.self.now o b f e (sym c.is_whole.ensures ∙ c.if-is_whole.true) is)

pub returns-else-is_whole : goal.returns-else-is_whole
returns-else-is_whole c = λ o f e.
    if_ok c.bad_at_end.result _ _ (c.bad_at_end.ensures Second (before_seam o) f.first.reads) (λ b is. first_alone c.args.self.now o b f e (sym c.is_whole.ensures ∙ c.if-is_whole.false) is)
