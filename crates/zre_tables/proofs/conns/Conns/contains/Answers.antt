use Rattle.std.proofs.Common.{is_some, ap, ◌∙◌}
use Rattle.zre_tables.specs.Rows.{row_at}
use Rattle.zre_tables.proofs.RowsInOrder.{placed}
use Rattle.zre_tables.proofs.conns.Conns.contains.Goals as goal

pub returns : goal.returns
returns c = c.is_some.ensures ∙ placed c.place.result c.args.conn c.self.inside.rows.all.items c.self.invariant.0 c.place.ensures ∙ ap (λ es. is_some (row_at c.args.conn es)) c.self.view_is
