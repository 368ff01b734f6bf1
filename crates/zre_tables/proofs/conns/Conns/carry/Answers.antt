use Rattle.std.proofs.Common.{Some, refl, arith}
use Rattle.zre_tables.specs.declared.connection.Connection.{Connection}
use Rattle.zre_tables.proofs.ChangedRows.{changes}
use Rattle.zre_tables.proofs.IdleConnections.{put_changed}
use Rattle.zre_tables.proofs.conns.Conns.carry.Goals as goal

pub invariant_of-self : goal.invariant_of-self
invariant_of-self c = put_changed c.self.inside.first c.args.conn c.in-Some.at c.self.inside.rows.all.items c.index_mut.result.now c.self.invariant.0 c.in-Some.ensures c.index_mut.ensures.value (record c.index_mut.result.now.1 { run = Some c.args.link }) c.self.inside.first (omega arith) (λ none. absurd cc) c.self.invariant.1

pub returns-in-Some : goal.returns-in-Some
returns-in-Some c = changes c.args.conn c.in-Some.at c.self.inside.rows.all.items c.args.self.now c.self.view_is c.index_mut.result.now c.self.invariant.0 c.in-Some.ensures c.index_mut.ensures.value (λ (x : Connection). record x { run = Some c.args.link }) _ refl
