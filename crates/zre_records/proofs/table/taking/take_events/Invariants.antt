use Rattle.std.proofs.Common.{ℕ, List, ◌++◌, take, flat_map}
use Rattle.zre_records.specs.table.Kept.{Keeps}
use Rattle.zre_records.specs.table.Writes.{frames_told}
use Rattle.zre_records.proofs.table.taking.take_events.Given as goal

-- the frames of those so far were taken
abbrev pub invariant-loop-event : goal.invariant-loop-event
invariant-loop-event l = (fs : List (List ℕ)) → Keeps fs l.fn.replica → Keeps (fs ++ flat_map (frames_told l.group) (take l.event-index l.events)) l.replica
