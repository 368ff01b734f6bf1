use Rattle.zre_capture.specs.declared.format.Format.TheVariants.{Second}
use Rattle.zre_records.proofs.audit.AuditorOfCaptures.{if_ok, place_before, place_later}
use Rattle.zre_records.proofs.audit.auditor.Auditor.bad_at_end.Goals as goal

pub returns-in-Some-2 : goal.returns-in-Some-2
returns-in-Some-2 c = λ o f. place_before c.args.self.now o c.in-Some.second c.in_ok-bad.field-0 c.in-Some-2.bad f c.in-Some.is (λ u k. c.in_ok-bad.ensures Second u k.reads) c.in-Some-2.is

pub returns-in_ok-bad_at_end-in-None : goal.returns-in_ok-bad_at_end-in-None
returns-in_ok-bad_at_end-in-None c = λ o f.
    if_ok c.move_by.result _ _ c.move_by.ensures (λ found is.
    place_later c.args.self.now o c.in-Some.second c.in_ok-bad.field-0 c.in_ok-bad_at_end-in-None.field-0 found c.lines.result f c.in-Some.is (λ u k. c.in_ok-bad.ensures Second u k.reads) c.in-None.is c.in_ok-bad_at_end-in-None.ensures c.lines.ensures is)
