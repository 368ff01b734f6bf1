use Rattle.std.proofs.Common.{◌≡◌, ◌++◌, drop}
use Rattle.zre_tables.specs.Rows.{numbers_of}
use Rattle.zre_tables.specs.Views.{row_in}
use Rattle.zre_tables.proofs.peers.Peers.members.Given as goal

-- what was found, with what is found of the rest
abbrev pub invariant-loop-link : goal.invariant-loop-link
invariant-loop-link l = l.found ++ numbers_of (row_in l.group) (drop l.link-index l.self) ≡ numbers_of (row_in l.group) l.self
