use Rattle.zre_shared.proofs.FramesOfTables.{Welcoming}
use Rattle.zre_shared.proofs.replica.Replica.welcome.Given as goal

abbrev pub invariant-loop-write : goal.invariant-loop-write
invariant-loop-write l = Welcoming l.fn.peer l.self.writes l.write-iterator l.gathered
