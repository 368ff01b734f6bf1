use Rattle.std.proofs.Common.{sym}
use Rattle.zre_tables.proofs.RowsInOrder.{lies}
use Rattle.zre_tables.proofs.rows.Rows.get.Goals as goal

pub returns : goal.returns
returns g c = sym (lies c.args.self.now.all.items c.args.number c.in_ok-at.at c.index.result.now c.requires c.in_ok-at.ensures c.index.ensures).there_is
