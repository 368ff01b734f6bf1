-- What a running job, and a spawner, tell.
use Rattle.std.specs.Prelude.{ℕ, ◌==◌, Bool, false, List, Option, Some, None}
use Rattle.std.specs.List.{list_any}
use Rattle.zre_outside.specs.declared.running.Running.{Running}
use Rattle.zre_outside.specs.Causes.{raised}
use Rattle.zre_outside.specs.Calls.{Calls}

-- the job that was started
abbrev pub job_of : {J Out : Type 0} → Running J Out → J
job_of r = r.handle.promise.job.value

-- the starts of which some are to be refused, and how many refusals there were
pub record FailingStarts : Type 0 where
  pub starts : Calls
  pub faults : ℕ

-- the next start, after so many, stands on a list
abbrev pub is_listed : Option ℕ → List ℕ → Bool
is_listed None fails = false
is_listed (Some starts) fails = list_any (λ n. n == raised starts) fails
