use Rattle.std.proofs.Common.{is_some, ap, ◌∙◌}
use Rattle.zre_tables.specs.Rows.{row_at}
use Rattle.zre_tables.proofs.RowsInOrder.{placed}
use Rattle.zre_tables.proofs.peers.Peers.contains.Goals as goal

pub returns : goal.returns
returns c = c.is_some.ensures ∙ placed c.place.result c.args.link c.self.inside.rows.all.items c.self.invariant.rising c.place.ensures ∙ ap (λ es. is_some (row_at c.args.link es)) c.self.view_is
