use Rattle.std.proofs.Common.{◌≡◌, ◌++◌, drop}
use Rattle.zre_tables.specs.Views.{ids_entered}
use Rattle.zre_tables.proofs.peers.Peers.entered.Given as goal

-- the ids so far, with those of the rows that are left
abbrev pub invariant-loop-peer : goal.invariant-loop-peer
invariant-loop-peer l = l.ids ++ ids_entered (drop l.peer-index l.self) ≡ ids_entered l.self
