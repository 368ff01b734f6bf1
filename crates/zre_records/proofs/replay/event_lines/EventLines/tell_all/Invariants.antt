use Rattle.std.proofs.Common.{◌≡◌, ◌++◌, drop}
use Rattle.zre_peer.specs.Lines.{lines}
use Rattle.zre_records.proofs.replay.event_lines.EventLines.tell_all.Given as goal

abbrev pub invariant-loop-event : goal.invariant-loop-event
invariant-loop-event l = l.out ++ lines (drop l.event-index l.events) ≡ l.initial.out ++ lines l.events
