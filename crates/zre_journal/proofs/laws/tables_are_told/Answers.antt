use Rattle.zre_journal.proofs.ToldByTables.{tells_by_tables}
use Rattle.zre_journal.proofs.laws.tables_are_told.Goals as goal

pub returns : goal.returns
returns c = λ g J. tells_by_tables g J
