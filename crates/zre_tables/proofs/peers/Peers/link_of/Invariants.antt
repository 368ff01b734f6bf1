use Rattle.std.proofs.Common.{◌≡◌, drop}
use Rattle.zre_tables.specs.Searches.{link_among}
use Rattle.zre_tables.proofs.peers.Peers.link_of.Given as goal

-- no row so far has the id
abbrev pub invariant-loop-link : goal.invariant-loop-link
invariant-loop-link l = link_among l.id l.self ≡ link_among l.id (drop l.link-index l.self)
