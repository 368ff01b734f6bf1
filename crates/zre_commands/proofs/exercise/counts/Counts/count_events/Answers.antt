use Rattle.zre_commands.proofs.exercise.EventCounts.{no_event, next_event, all_events}
use Rattle.zre_commands.proofs.exercise.counts.Counts.count_events.Goals as goal

pub loop-event-init : goal.loop-event-init
loop-event-init c = λ n before so_far. no_event n c.args.events.now before _ so_far

pub loop-event-preserved : goal.loop-event-preserved
loop-event-preserved c = λ n before so_far.
    next_event n c.loop-event.event-index c.args.events.now before c.event-item.result c.loop-event.self c.count_event.new.self c.loop-event-test.true c.event-item.is
    (c.loop-event.invariant n before so_far) c.in_ok-count_event.ensures

pub returns : goal.returns
returns c = λ n before so_far.
    all_events n c.loop-event.event-index c.args.events.now before _ c.loop-event-test.false (c.loop-event.invariant n before so_far)
