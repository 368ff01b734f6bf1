use Rattle.std.proofs.Common.{◌||◌, sym, ap, ◌∙◌}
use Rattle.std.specs.Prelude.{is_some}
use Rattle.zre_capture.specs.Journal.{settings}
use Rattle.zre_capture.specs.declared.format.Format.TheVariants.{Second}
use Rattle.zre_records.specs.audit.Audit.{earlier, later, later_bad}
use Rattle.zre_records.proofs.audit.AuditorOfCaptures.{first_is}
use Rattle.zre_records.proofs.audit.auditor.Auditor.is_stopped.Goals as goal

pub returns-then-is_bad : goal.returns-then-is_bad
returns-then-is_bad c = λ o f.
    c.if-is_bad.true ∙ ap (λ b. b || is_some (later_bad (settings Second (earlier o)) (later o))) (sym c.if-is_bad.true ∙ first_is c.args.self.now o c.is_bad.result f (λ u k. c.is_bad.ensures Second u k.reads))

pub returns-else-is_bad : goal.returns-else-is_bad
returns-else-is_bad c = λ o f.
    c.is_second_bad.ensures o f ∙ ap (λ b. b || is_some (later_bad (settings Second (earlier o)) (later o))) (sym c.if-is_bad.false ∙ first_is c.args.self.now o c.is_bad.result f (λ u k. c.is_bad.ensures Second u k.reads))
