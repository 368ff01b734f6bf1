use Rattle.std.proofs.Common.{◌≡◌, ◌++◌, drop}
use Rattle.zre_tables.specs.Rows.{numbers_of}
use Rattle.zre_tables.specs.Searches.{row_stale}
use Rattle.zre_tables.proofs.searches.stale_among.Given as goal

-- what was found, with what is found of the rest
abbrev pub invariant-loop-number : goal.invariant-loop-number
invariant-loop-number l = l.numbers ++ numbers_of (row_stale l.limit l.now) (drop l.number-index l.rows.all.items) ≡ numbers_of (row_stale l.limit l.now) l.rows.all.items
