use Rattle.std.proofs.Common.{[], ◌++◌, ◌∙◌, ap, sym, append-nil}
use Rattle.zre_outside.specs.Recorders.{FailingCapture}
use Rattle.zre_outside.proofs.mem_recorder.MemRecorderRecorder.put.Goals as goal

pub returns-clause-front : goal.returns-clause-front
returns-clause-front c =
    let kept = ap (λ (v : FailingCapture). v.capture.kept ++ c.args.bytes.now) c.self.view_is in
    (c.args.bytes.now, [], sym (append-nil _), c.in_ok-append.ensures.ok ∙ kept)
