use Rattle.std.proofs.Common.{◌≡◌, take}
use Rattle.zre_journal.specs.Held.{header_octets}
use Rattle.zre_tables.specs.Holding.{capped}
use Rattle.zre_tables.proofs.holding.headers_octets.Given as goal

-- of the headers so far
abbrev pub invariant-loop-i : goal.invariant-loop-i
invariant-loop-i l = l.sum ≡ capped (header_octets (take l.i l.view.headers))
