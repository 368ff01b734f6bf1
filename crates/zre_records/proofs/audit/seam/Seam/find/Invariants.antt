use Rattle.zre_records.proofs.audit.BeforeSecondCapture.{IsSought}
use Rattle.zre_records.proofs.audit.seam.Seam.find.Given as goal

abbrev pub invariant-loop-place : goal.invariant-loop-place
invariant-loop-place l = IsSought l.fn.self l.piece l.place l.self
