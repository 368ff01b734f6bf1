use Rattle.std.proofs.Common.{◌≡◌, ◌++◌, drop}
use Rattle.zre_peer.specs.Lines.{lines}
use Rattle.zre_peer.proofs.line.push_lines.Given as goal

abbrev pub invariant-loop-event : goal.invariant-loop-event
invariant-loop-event l = l.out ++ lines (drop l.event-index l.events) ≡ l.initial.out ++ lines l.events
