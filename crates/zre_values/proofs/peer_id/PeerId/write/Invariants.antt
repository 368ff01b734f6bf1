use Rattle.std.proofs.Common.{◌-◌}
use Rattle.zre_values.proofs.IdTexts.{AreWritten}
use Rattle.zre_values.proofs.peer_id.PeerId.write.Given as goal

abbrev pub invariant-octets : goal.invariant-octets
invariant-octets l = AreWritten l.self.0 l.text l.i

abbrev pub decreases-octets : goal.decreases-octets
decreases-octets l = 16 - l.i
