use Rattle.std.proofs.Common.{ap, ◌∙◌}
use Rattle.zre_shared.specs.Replicas.{with_frame}
use Rattle.zre_records.proofs.table.FramesTaken.{no_frame, next_frame, all_frames}
use Rattle.zre_records.proofs.table.taking.take_frames.Goals as goal

pub loop-frame-init : goal.loop-frame-init
loop-frame-init c = λ fs k. no_frame c.args.frames.now fs c.args.replica.now k

pub loop-frame-preserved : goal.loop-frame-preserved
loop-frame-preserved c = λ fs k.
    next_frame c.loop-frame.frame-index c.args.frames.now fs c.frame-item.result c.loop-frame.replica c.take.new.self c.loop-frame-test.true c.frame-item.is (c.loop-frame.invariant fs k)
    (c.in_ok-_is_write.ensures.ok ∙ ap (with_frame c.loop-frame.replica) c.as_slice.ensures)

pub returns : goal.returns
returns c = λ fs k. all_frames c.loop-frame.frame-index c.args.frames.now fs c.loop-frame.replica c.loop-frame-test.false (c.loop-frame.invariant fs k)
