use Rattle.zre_mailbox.proofs.ConnAfterOctets.{introduced_stays}
use Rattle.zre_mailbox.proofs.laws.identity_stays.Goals as goal

pub returns : goal.returns
returns c = introduced_stays
