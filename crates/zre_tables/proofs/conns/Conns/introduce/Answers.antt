use Rattle.std.proofs.Common.{Some, refl}
use Rattle.zre_tables.specs.declared.connection.Connection.{Connection}
use Rattle.zre_tables.proofs.ChangedRows.{changes}
use Rattle.zre_tables.proofs.IdleConnections.{put_kept}
use Rattle.zre_tables.proofs.conns.Conns.introduce.Goals as goal

pub invariant_of-self : goal.invariant_of-self
invariant_of-self c = put_kept c.self.inside.first c.args.conn c.in-Some.at c.self.inside.rows.all.items c.index_mut.result.now c.self.invariant.0 c.in-Some.ensures c.index_mut.ensures.value (record c.index_mut.result.now.1 { identity = Some c.args.peer }) refl refl c.self.invariant.1

pub returns-in-Some : goal.returns-in-Some
returns-in-Some c = changes c.args.conn c.in-Some.at c.self.inside.rows.all.items c.args.self.now c.self.view_is c.index_mut.result.now c.self.invariant.0 c.in-Some.ensures c.index_mut.ensures.value (λ (x : Connection). record x { identity = Some c.args.peer }) _ refl
