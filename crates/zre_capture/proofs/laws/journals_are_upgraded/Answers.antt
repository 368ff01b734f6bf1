use Rattle.zre_capture.proofs.FormatUpgrade.{journal-are, journal-short}
use Rattle.zre_capture.proofs.laws.journals_are_upgraded.Goals as goal

pub returns-clause-values : goal.returns-clause-values
returns-clause-values c = journal-are

pub returns-clause-short : goal.returns-clause-short
returns-clause-short c = journal-short
