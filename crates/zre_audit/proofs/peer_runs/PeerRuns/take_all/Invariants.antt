use Rattle.std.proofs.Common.{◌≡◌, ℕ, List, take}
use Rattle.zre_audit.specs.Told.{runs_in, runs_after}
use Rattle.zre_audit.proofs.peer_runs.PeerRuns.take_all.Given as goal

abbrev pub invariant-loop-event : goal.invariant-loop-event
invariant-loop-event l = (p : List ℕ) → runs_in l.self.runs p ≡ runs_after p (runs_in l.fn.self.runs p) (take l.event-index l.events)
