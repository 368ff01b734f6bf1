use Rattle.std.proofs.Common.{[], ◌++◌, ◌∙◌, ap, sym, append-nil}
use Rattle.zre_outside.specs.Recorders.{Capture}
use Rattle.zre_outside.proofs.sure_recorder.SureRecorderRecorder.put.Goals as goal

pub returns-clause-front : goal.returns-clause-front
returns-clause-front c =
    let kept = ap (λ (v : Capture). v.kept ++ c.args.bytes.now) c.self.view_is in
    (c.args.bytes.now, [], sym (append-nil _), c.in_ok-append.ensures.ok ∙ kept)
