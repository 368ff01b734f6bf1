use Rattle.std.proofs.Common.{◌≡◌, drop}
use Rattle.zre_audit.specs.Seen.{first_entered}
use Rattle.zre_audit.proofs.seen.first_entered.Given as goal

abbrev pub invariant-loop-event : goal.invariant-loop-event
invariant-loop-event l = first_entered l.events ≡ first_entered (drop l.event-index l.events)
