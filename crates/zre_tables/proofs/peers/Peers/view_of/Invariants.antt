use Rattle.std.proofs.Common.{◌≡◌, drop}
use Rattle.zre_tables.specs.Views.{view_among}
use Rattle.zre_tables.proofs.peers.Peers.view_of.Given as goal

-- no row so far has the id
abbrev pub invariant-loop-peer : goal.invariant-loop-peer
invariant-loop-peer l = view_among l.id l.self ≡ view_among l.id (drop l.peer-index l.self)
