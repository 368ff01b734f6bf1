use Rattle.zre_records.proofs.AuditIsWritten.{says_yes}
use Rattle.zre_records.proofs.laws.audits_say_yes_where_journals_agree.Goals as goal

pub returns : goal.returns
returns c = says_yes
