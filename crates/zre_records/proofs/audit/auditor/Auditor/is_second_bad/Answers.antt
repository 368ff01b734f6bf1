use Rattle.zre_records.proofs.audit.AuditorOfCaptures.{second_is, second_none}
use Rattle.zre_records.proofs.audit.auditor.Auditor.is_second_bad.Goals as goal

pub returns-in-Some : goal.returns-in-Some
returns-in-Some c = λ o f. second_is c.args.self.now o c.in-Some.second c.is_bad.result f c.in-Some.is c.is_bad.ensures

pub returns-in-None : goal.returns-in-None
returns-in-None c = λ o f. second_none c.args.self.now o f c.in-None.is
