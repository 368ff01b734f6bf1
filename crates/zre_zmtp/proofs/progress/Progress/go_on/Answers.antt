use Rattle.std.proofs.Common.{◌≡◌, ◌+◌, ◌++◌, ℕ, List, [], length, refl, sym, ap, ◌∙◌, arith}
use Rattle.std.proofs.lemmas.List.{length-append}
use Rattle.zre_zmtp.specs.Stream.{Before}
use Rattle.zre_zmtp.specs.Shown.{before_of, left_of}
use Rattle.zre_zmtp.proofs.FrameFaults.{left-frame, left-nothing}
use Rattle.zre_zmtp.proofs.UnfinishedFrames.{headed, fine, grown, in_frames, frame_waits, message_ends}
use Rattle.zre_zmtp.proofs.progress.Progress.go_on.Goals as goal

pub returns-then-len-missing-clause-taken : goal.returns-then-len-missing-clause-taken
returns-then-len-missing-clause-taken g c =
    let p = c.args.self.now in
    let h = c.args.header in
    let part = p.partial in
    let frame = in_frames (before_of p) c.requires.traffic in
    let now = c.add.new.self in
    λ want out w.
    rw (grown p part c.args.piece.now now.body frame refl c.in_ok-add.ensures.body)
    (frame_waits want (before_of p) h part.head now.body out _ _ c.requires.traffic (headed p part h refl c.requires.known)
    (fine want p part h frame refl c.requires.known w) (omega (arith, ap length c.in_ok-add.ensures.body, length-append part.body c.args.piece.now, c.len.ensures, c.if-len-missing.true)) refl
    (left-frame p.expected p.greeting now.head now.body frame ∙ ap (λ (x : List ℕ). x ++ now.body) c.in_ok-add.ensures.head.0))

pub returns-clause-taken : goal.returns-clause-taken
returns-clause-taken g c =
    let p = c.args.self.now in
    let part = p.partial in
    let body = c.in_ok-body.ensures.body in
    let sized : length c.in_ok-body.body.now ≡ c.args.header.size = omega (arith, ap length body, length-append part.body c.args.piece.now) in
    let e = c.in_ok-lent.ensures in
    let frame = in_frames (before_of p) c.requires.traffic in
    let end = p.place + (c.len-header_len.result + length c.in_ok-body.body.now) in
    λ want out w.
    rw (grown p part c.args.piece.now c.in_ok-body.body.now frame refl body)
    (message_ends want (before_of p) c.args.header part.head c.in_ok-body.body.now c.len-header_len.result out c.in_ok-lent.lent _ _ c.requires.traffic (headed p part c.args.header refl c.requires.known) (sym part.known ∙ c.requires.known) sized
    (fine want p part c.args.header frame refl c.requires.known w) (sym c.is_message.ensures ∙ c.if-not-is_message.false) (sym c.has_more.ensures ∙ c.if-has_more.false) c.len-header_len.ensures e.bodies
    (ap before_of e.after ∙ ap (λ x. let y : Before = record { expected = x; place = end; opened = []; start = end } in y) c.requires.traffic)
    (ap left_of e.after ∙ left-nothing p.expected p.greeting _ _ c.requires.traffic c.in_ok-body.ensures.empty.0 c.in_ok-body.ensures.empty.2))
