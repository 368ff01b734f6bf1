use Rattle.std.proofs.Common.{◌≡◌, ◌++◌, drop}
use Rattle.zre_tables.specs.Rows.{numbers_of}
use Rattle.zre_tables.specs.Searches.{row_evasive}
use Rattle.zre_tables.proofs.searches.evasive_rows.Given as goal

-- what was found, with what is found of the rest
abbrev pub invariant-loop-link : goal.invariant-loop-link
invariant-loop-link l =
    l.found ++ numbers_of (row_evasive l.evasive l.expired l.now) (drop l.link-index l.rows.all.items)
    ≡ numbers_of (row_evasive l.evasive l.expired l.now) l.rows.all.items
