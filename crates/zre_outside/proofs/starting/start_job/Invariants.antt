use Rattle.std.proofs.Common.{Some}
use Rattle.zre_outside.proofs.starting.start_job.Given as goal

abbrev pub ghosts-start_known : goal.ghosts-start_known
ghosts-start_known g a = record { the = Some a.job }
