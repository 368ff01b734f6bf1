use Rattle.zre_journal.specs.Peers.{life}
use Rattle.zre_node.specs.Stands.{IsBut}
use Rattle.zre_node.proofs.RowsOfKnownPeers.{parts, no_row, not_missing}
use Rattle.zre_node.proofs.tables.Tables.end.Goals as goal

pub returns-in_default : goal.returns-in_default
returns-in_default c = λ g H n s.
    not_missing (life c.args.link H) s (no_row (IsBut g H c.args.link) H c.args.self.now.peers n.peers c.args.link c.in_default.ensures.value)

pub returns : goal.returns
returns c = λ g H n s. c.part.ensures g H (parts g H c.args.link c.args.self.now n c.in-Some.peer c.in-Some.ensures.value c.remove.new.self c.in-Some.ensures.rows)
