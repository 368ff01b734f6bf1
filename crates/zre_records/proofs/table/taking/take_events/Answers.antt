use Rattle.std.proofs.Common.{ℕ, List, ◌++◌, take, flat_map, subst}
use Rattle.zre_records.specs.table.Kept.{Keeps}
use Rattle.zre_records.specs.table.Writes.{frames_told}
use Rattle.zre_records.proofs.table.FramesTaken.{no_event, next_event, all_events}
use Rattle.zre_records.proofs.table.taking.take_events.Goals as goal

pub loop-event-init : goal.loop-event-init
loop-event-init c = λ fs k. no_event c.args.group.now c.args.events.now fs c.args.replica.now k

pub loop-event-preserved : goal.loop-event-preserved
loop-event-preserved c = λ fs k.
    let so_far = fs ++ flat_map (frames_told c.args.group.now) (take c.loop-event.event-index c.args.events.now) in
    next_event c.args.group.now c.loop-event.event-index c.args.events.now fs c.event-item.result c.take_frames.new.replica c.loop-event-test.true c.event-item.is
    (subst (λ (r : List (List ℕ)). Keeps (so_far ++ r) c.take_frames.new.replica) c.frames_told.ensures (c.in_ok-take_frames.ensures so_far (c.loop-event.invariant fs k)))

pub returns : goal.returns
returns c = λ fs k. all_events c.args.group.now c.loop-event.event-index c.args.events.now fs c.loop-event.replica c.loop-event-test.false (c.loop-event.invariant fs k)
