use Rattle.std.proofs.Common.{◌≡◌, take}
use Rattle.zre_node.proofs.tables.Tables.groups.Given as goal

-- those so far are copied
abbrev pub invariant-loop-i : goal.invariant-loop-i
invariant-loop-i l = l.groups ≡ take l.i l.self.own.groups
