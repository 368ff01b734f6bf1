use Rattle.zre_tables.proofs.RowsInOrder.{rising_none}
use Rattle.zre_tables.proofs.rows.Rows.new.Goals as goal

pub returns-clause-rising : goal.returns-clause-rising
returns-clause-rising g c = rw c.new.ensures.items rising_none
