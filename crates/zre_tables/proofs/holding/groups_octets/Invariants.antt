use Rattle.std.proofs.Common.{◌≡◌, length, take, sum_by}
use Rattle.zre_tables.specs.Holding.{capped}
use Rattle.zre_tables.proofs.holding.groups_octets.Given as goal

-- of the groups so far
abbrev pub invariant-loop-i : goal.invariant-loop-i
invariant-loop-i l = l.sum ≡ capped (sum_by length (take l.i l.view.groups))
