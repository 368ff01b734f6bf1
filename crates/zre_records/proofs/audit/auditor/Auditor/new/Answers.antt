use Rattle.zre_records.proofs.audit.AuditorAtEnd.{start_going}
use Rattle.zre_records.proofs.audit.auditor.Auditor.new.Goals as goal

pub returns-clause-going : goal.returns-clause-going
returns-clause-going c = start_going
