use Rattle.std.proofs.Common.{None}
use Rattle.zre_tables.specs.declared.connection.Connection.{Connection}
use Rattle.zre_tables.proofs.ChangedRows.{changes}
use Rattle.zre_tables.proofs.IdleConnections.{put_changed}
use Rattle.zre_tables.proofs.conns.Conns.ignore.Goals as goal

pub invariant_of-self : goal.invariant_of-self
invariant_of-self c = put_changed c.self.inside.first c.args.conn c.in-Some.at c.self.inside.rows.all.items c.index_mut.result.now c.self.invariant.0 c.in-Some.ensures c.index_mut.ensures.value c.ignore_from.new.self c.earlier_idle-self-inside.result c.earlier_idle-self-inside.ensures.before c.earlier_idle-self-inside.ensures.rests c.self.invariant.1

pub returns-in-Some : goal.returns-in-Some
returns-in-Some c = changes c.args.conn c.in-Some.at c.self.inside.rows.all.items c.args.self.now c.self.view_is c.index_mut.result.now c.self.invariant.0 c.in-Some.ensures c.index_mut.ensures.value (λ (x : Connection). record x { since = c.args.now; run = None; conn = None }) _ c.ignore_from.ensures
