use Rattle.zre_records.proofs.audit.AuditorOfCaptures.{judged_none, judged_both}
use Rattle.zre_records.proofs.audit.auditor.Auditor.judge.Goals as goal

pub returns-in-Some : goal.returns-in-Some
returns-in-Some c = λ o f. judged_both c.push_judgement.result c.args.self.now o c.in-Some.second c.args.out.now c.push_judgement.new.out f c.in-Some.is c.push_judgement.ensures

pub returns-in-None : goal.returns-in-None
returns-in-None c = λ o f. judged_none c.args.self.now o c.args.out.now f c.in-None.is
