use Rattle.std.proofs.Common.{ℕ, ◌≤◌, drop}
use Rattle.zre_tables.specs.IdleConnections.{AllIdleFrom}
use Rattle.zre_tables.proofs.searches.first_idle.Given as goal

-- those so far rest from the moment on
abbrev pub invariant-loop-conn : goal.invariant-loop-conn
invariant-loop-conn l = (m : ℕ) → m ≤ l.first → AllIdleFrom m (drop l.conn-index l.rows.all.items) → AllIdleFrom m l.rows.all.items
