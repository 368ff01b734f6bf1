use Rattle.zre_records.proofs.audit.AuditorOfCaptures.{if_ok, place_alone}
use Rattle.zre_records.proofs.audit.auditor.Auditor.bad_alone.Goals as goal

pub returns-in-None : goal.returns-in-None
returns-in-None c = λ o f e.
    if_ok c.move_by.result _ _ c.move_by.ensures (λ found is.
    place_alone c.args.self.now o c.in_ok-bad.field-0 found c.lines.result c.column-column.result f e (c.in_ok-bad.ensures o f e) c.in-None.is c.column-column.ensures c.lines.ensures is)
