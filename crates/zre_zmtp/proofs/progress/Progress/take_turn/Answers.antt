use Rattle.std.proofs.Common.{◌≡◌, ◌++◌, ◌∙◌, List, ℕ, [], length, take, ap, arith}
use Rattle.std.proofs.lemmas.List.{take_all}
use Rattle.std.proofs.lemmas.Result.{err_from_is_err_and}
use Rattle.zre_zmtp.specs.Run.{run_all}
use Rattle.zre_zmtp.specs.Shown.{before_of, left_of}
use Rattle.zre_zmtp.proofs.FrameFaults.{left-frame}
use Rattle.zre_zmtp.proofs.TurnsOfReaders.{begins, joined, refused_turn}
use Rattle.zre_zmtp.proofs.progress.Progress.take_turn.Goals as goal

pub returns-in_err-take_part-clause-refused : goal.returns-in_err-take_part-clause-refused
returns-in_err-take_part-clause-refused g c =
    let p = err_from_is_err_and c.from_residual.result c.from_residual.ensures.1 in
    let b = before_of c.args.self.now in
    let left = left_of c.args.self.now in
    let o = c.args.octets.now in
    let out = c.args.out.now in
    λ w. rw (p.1, p.2) (refused_turn c.args.want.now out out c.take_part.new.out (run_all c.args.want.now b (left ++ o)) b left c.split_at.result.0.now _ o c.in_err-take_part.field-0.0
    (joined _ o _ c.split_at.ensures.front) (begins c.args.want.now b left o out w) (c.in_err-take_part.ensures.refused w))

pub returns-then-header-later-clause-ok : goal.returns-then-header-later-clause-ok
returns-then-header-later-clause-ok g c =
    let p = c.args.self.now in
    let o = c.args.octets.now in
    let h = c.in-Some.ensures in
    let none : left_of p ≡ [] = left-frame p.expected p.greeting p.partial.head p.partial.body h.frame ∙ (λ i. h.no_head i ++ h.no_body i) in
    let all : left_of p ++ take (length o) o ≡ o = ap (λ (x : List ℕ). x ++ take (length o) o) none ∙ take_all (length o) o (omega arith) in
    λ w. rw all (c.in_ok-begin_frame.ensures.ok c.args.want.now c.args.out.now)
