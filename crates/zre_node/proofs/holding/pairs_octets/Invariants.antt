use Rattle.std.proofs.Common.{◌≡◌, take}
use Rattle.zre_journal.specs.Held.{header_octets}
use Rattle.zre_tables.specs.Holding.{capped}
use Rattle.zre_node.proofs.holding.pairs_octets.Given as goal

-- of the headers so far
abbrev pub invariant-loop-header : goal.invariant-loop-header
invariant-loop-header l = l.sum ≡ capped (header_octets (take l.header-index l.header-items))
