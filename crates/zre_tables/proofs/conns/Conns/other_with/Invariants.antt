use Rattle.std.proofs.Common.{◌≡◌, drop}
use Rattle.zre_tables.specs.Searches.{other_among}
use Rattle.zre_tables.proofs.conns.Conns.other_with.Given as goal

-- no row so far is another with the identity
abbrev pub invariant-loop-number : goal.invariant-loop-number
invariant-loop-number l = other_among l.id l.conn l.self ≡ other_among l.id l.conn (drop l.number-index l.self)
