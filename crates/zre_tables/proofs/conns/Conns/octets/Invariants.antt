use Rattle.std.proofs.Common.{ℕ, sum_by, drop}
use Rattle.std.specs.List.{AllByRecursion}
use Rattle.zre_tables.specs.declared.connection.Connection.{Connection}
use Rattle.zre_tables.specs.Holding.{conn_row_octets, IsReading}
use Rattle.zre_tables.proofs.SumsOverRows.{AddUp}
use Rattle.zre_tables.proofs.conns.Conns.octets.Given as goal

-- those of the rows that are left make up the rest
abbrev pub invariant-loop-conn : goal.invariant-loop-conn
invariant-loop-conn l = AllByRecursion (λ (e : ℕ × Connection). IsReading e.1.conn) l.self
    → AddUp (λ (k : Connection). IsReading k.conn) conn_row_octets (drop l.conn-index l.self) l.sum (sum_by (λ (e : ℕ × Connection). conn_row_octets e.1) l.self)
