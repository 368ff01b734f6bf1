use Rattle.std.proofs.Common.{◌≡◌, ◌++◌, drop}
use Rattle.std.specs.Map.{keys_of}
use Rattle.zre_tables.proofs.rows.Rows.numbers.Given as goal

-- the numbers so far, with those of the rows that are left
abbrev pub invariant-loop-number : goal.invariant-loop-number
invariant-loop-number g l = l.numbers.items ++ keys_of (drop l.number-index l.self.all.items) ≡ keys_of l.self.all.items
