use Rattle.zre_tables.proofs.IdleConnections.{idle_left}
use Rattle.zre_tables.proofs.conns.Conns.remove.Goals as goal

pub invariant_of-self : goal.invariant_of-self
invariant_of-self c = (c.remove.ensures.rising, idle_left c.self.inside.first c.args.conn c.self.inside.rows.all.items c.remove.new.self.all.items c.remove.ensures.rows c.self.invariant.1)
