-- Since when connections that run no peer have rested.
use Rattle.std.specs.Prelude.{◌≡◌, ℕ, ◌≤◌, true, List, is_none}
use Rattle.std.specs.List.{AllByRecursion}
use Rattle.zre_tables.specs.declared.connection.Connection.{Connection}

-- the connection of this row runs a peer, or has rested since this moment or a later one
abbrev pub IdleFrom : ℕ → Connection → Type 0
IdleFrom first k = is_none k.run ≡ true → first ≤ k.since

-- the same of all rows
abbrev pub AllIdleFrom : ℕ → List (ℕ × Connection) → Type 0
AllIdleFrom first es = AllByRecursion (λ (e : ℕ × Connection). IdleFrom first e.1) es
