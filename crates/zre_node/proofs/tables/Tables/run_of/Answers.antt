use Rattle.std.proofs.Common.{ap, ◌∙◌}
use Rattle.zre_tables.specs.declared.connection.Connection.{Connection}
use Rattle.zre_node.proofs.EndsOfPeers.{row_conn, conn_row}
use Rattle.zre_node.proofs.tables.Tables.run_of.Goals as goal

pub returns-in-Some : goal.returns-in-Some
returns-in-Some c = λ g H h o. ap (λ (x : Connection). x.run) (row_conn g H c.args.self.now h.keeps c.args.conn c.in-Some.found.now c.in-Some.ensures.value).1

pub returns-in-None : goal.returns-in-None
returns-in-None c = λ g H h o. let z = c.in-None.ensures.value ∙ conn_row g H c.args.self.now h.keeps c.args.conn o in absurd cc
