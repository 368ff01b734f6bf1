use Rattle.std.proofs.Common.{◌≡◌, take}
use Rattle.zre_peer.proofs.headers.Headers.to_pairs.Given as goal

abbrev pub invariant-loop-i : goal.invariant-loop-i
invariant-loop-i l = l.pairs ≡ take l.i l.self
