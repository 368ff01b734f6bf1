use Rattle.zre_audit.proofs.RunsHaveLinks.{yes_is_agreement, yes_is_written}
use Rattle.zre_audit.proofs.laws.a_yes_is_agreement.Goals as goal

pub returns-clause-judged : goal.returns-clause-judged
returns-clause-judged c = λ g k J K. yes_is_agreement g k J K

pub returns-clause-written : goal.returns-clause-written
returns-clause-written c = λ g k J K. yes_is_written g k J K
