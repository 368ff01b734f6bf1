use Rattle.std.proofs.Common.{ℕ, sum_by, drop}
use Rattle.std.specs.List.{AllByRecursion}
use Rattle.zre_tables.specs.declared.peer.Peer.{Peer}
use Rattle.zre_tables.specs.Holding.{peer_row_octets, IsSending}
use Rattle.zre_tables.proofs.SumsOverRows.{AddUp}
use Rattle.zre_tables.proofs.peers.Peers.octets.Given as goal

-- those of the rows that are left make up the rest
abbrev pub invariant-loop-peer : goal.invariant-loop-peer
invariant-loop-peer l = AllByRecursion (λ (e : ℕ × Peer). IsSending e.1) l.self → AddUp IsSending peer_row_octets (drop l.peer-index l.self) l.sum (sum_by (λ (e : ℕ × Peer). peer_row_octets e.1) l.self)
