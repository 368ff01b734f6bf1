use Rattle.std.proofs.Common.{◌≡◌, ℕ, ◌+◌, ◌-◌, ◌++◌, List, [], length, take, drop, None, refl, sym, ap, ◌∙◌, arith}
use Rattle.std.proofs.lemmas.List.{length-append}
use Rattle.zre_zmtp.specs.Frame.{header_len}
use Rattle.zre_zmtp.specs.Stream.{Before}
use Rattle.zre_zmtp.specs.Shown.{before_of, left_of, header_fault}
use Rattle.zre_zmtp.proofs.FrameFaults.{IsHeader, is_header, head_of, left-frame}
use Rattle.zre_zmtp.proofs.FrontsOfPieces.{frame_of}
use Rattle.zre_zmtp.proofs.UnfinishedFrames.{in_frames, nothing_left, last_comes, frame_waits}
use Rattle.zre_zmtp.proofs.progress.Progress.begin.Goals as goal

pub returns-in-Some-clause-taken : goal.returns-in-Some-clause-taken
returns-in-Some-clause-taken g c =
    let p = c.args.self.now in
    let o = c.args.piece.now in
    let body = c.in-Some.body.now in
    let n = length o - length body in
    let e = c.in_ok-lent.ensures in
    let end = p.place + (n + length body) in
    λ want out w.
    last_comes want p c.in-Some.field-0-0 body o n out c.in_ok-lent.lent _ _ c.requires.traffic c.requires.none c.in-Some.ensures (omega (arith, ap length (frame_of c.in-Some.field-0-0 body [] o c.in-Some.ensures.last.frame).whole, length-append (take (header_len o) o ++ body) [], length-append (take (header_len o) o) body)) e.bodies
    (ap before_of e.after ∙ ap (λ x. let y : Before = record { expected = x; place = end; opened = []; start = end } in y) c.requires.traffic)
    (ap left_of e.after ∙ nothing_left p c.requires.traffic c.requires.none)

pub returns-clause-taken : goal.returns-clause-taken
returns-clause-taken g c =
    let p = c.args.self.now in
    let b = before_of p in
    let h = c.in-Some-read_header.header in
    let o = c.args.piece.now in
    let head = c.split_at.result.0.now in
    let later = c.split_at.result.1.now in
    let at = head_of h o head later (sym c.read_header.ensures ∙ c.in-Some-read_header.is)
    (c.split_at.ensures.front ∙ ap (λ n. take n o) c.header_len.ensures) (c.split_at.ensures.back ∙ ap (λ n. drop n o) c.header_len.ensures) in
    let is : IsHeader h head = is_header h head at.header at.within in
    let ok : header_fault b head ≡ None = sym (c.fault_of_whole.ensures head at.header) ∙ c.in_default-fault_of_whole.is in
    let e = c.in_ok-begin.ensures in
    let now = c.begin.new.self in
    let kept = left-frame p.expected p.greeting now.head now.body (in_frames b c.requires.traffic) ∙ ap (λ (x : List ℕ). x ++ now.body) e.head ∙ ap (λ (x : List ℕ). head ++ x) e.body in
    λ want out w.
    rw (nothing_left p c.requires.traffic c.requires.none, at.whole) (frame_waits want b h head later out b _ c.requires.traffic is ok (omega (arith, c.if-header-later.false)) refl kept)
