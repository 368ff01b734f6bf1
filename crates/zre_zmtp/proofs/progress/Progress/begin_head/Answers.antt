use Rattle.std.proofs.Common.{◌≡◌, None, refl, sym, ◌∙◌}
use Rattle.zre_zmtp.specs.Shown.{before_of, header_fault}
use Rattle.zre_zmtp.proofs.HeaderParts.{head_waits, head_left}
use Rattle.zre_zmtp.proofs.UnfinishedFrames.{nothing_left}
use Rattle.zre_zmtp.proofs.progress.Progress.begin_head.Goals as goal

pub returns-clause-taken : goal.returns-clause-taken
returns-clause-taken c =
    let p = c.args.self.now in
    let o = c.args.piece.now in
    let ok : header_fault (before_of p) o ≡ None = sym c.fault_of_header.ensures ∙ c.in_default.is in
    let kept = head_left p c.begin_head.new.self o c.requires.between.traffic c.begin_head.ensures.head c.begin_head.ensures.body in
    λ want out w.
    rw (nothing_left p c.requires.between.traffic c.requires.between.none) (head_waits want (before_of p) o out _ _ c.requires.between.traffic c.requires.short ok refl kept)
