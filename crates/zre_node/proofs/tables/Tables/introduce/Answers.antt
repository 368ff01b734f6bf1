use Rattle.zre_node.specs.Stands.{kept_conn}
use Rattle.zre_node.proofs.EndsOfPeers.{conn_row}
use Rattle.zre_node.proofs.ReadyOnConnections.{introduced}
use Rattle.zre_node.proofs.tables.Tables.introduce.Goals as goal

pub returns : goal.returns
returns c = λ g H h there unknown alone.
    introduced g H c.args.self.now h c.args.conn c.args.peer there unknown alone c.introduce.new.self
    (c.introduce.ensures.found (kept_conn g H c.args.conn) (conn_row g H c.args.self.now h.keeps c.args.conn there))
