use Rattle.std.proofs.Common.{◌≡◌, ℕ, List, ◌++◌, take}
use Rattle.zre_peer.specs.declared.event.Event.{Event}
use Rattle.zre_commands.specs.exercise.Counts.{tally}
use Rattle.zre_commands.proofs.exercise.counts.Counts.count_events.Given as goal

-- those so far are counted
abbrev pub invariant-loop-event : goal.invariant-loop-event
invariant-loop-event l = (n : ℕ) (before : List Event) → l.fn.self ≡ tally n before → l.self ≡ tally n (before ++ take l.event-index l.events)
