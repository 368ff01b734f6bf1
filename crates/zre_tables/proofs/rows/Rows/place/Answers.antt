use Rattle.std.proofs.Common.{◌-◌, rules}
use Rattle.zre_tables.proofs.RowsInOrder.{hit}
use Rattle.zre_tables.proofs.rows.Rows.place.Goals as goal

pub returns-then-index-number : goal.returns-then-index-number
returns-then-index-number g c = hit c.args.self.now.all.items (c.args.number - c.index.result.now.0) c.args.number c.index-then-far-len.result.now (search rules) c.index-then-far-len.ensures c.if-index-number.true
