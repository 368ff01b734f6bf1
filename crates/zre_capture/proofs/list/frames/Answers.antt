use Rattle.std.proofs.Common.{sym, ◌∙◌, ap, Some, List, ℕ}
use Rattle.std.specs.Prelude.{codes}
use Rattle.std.proofs.lemmas.Result.{IfOk-weaker}
use Rattle.zre_capture.specs.Values.{frames_of}
use Rattle.zre_capture.proofs.TextParts.{equal, unequal}
use Rattle.zre_capture.proofs.QuotedMembers.{frames_of-percent, members_found}
use Rattle.zre_capture.proofs.list.frames.Goals as goal

pub returns-then-eq : goal.returns-then-eq
returns-then-eq c =
    let percent = equal c.args.field.now c.as_slice.result.now (codes "%") c.eq.result c.eq.ensures c.as_slice.ensures c.if-eq.true in
    ap (λ (vs : List (List ℕ)). Some vs) c.new.ensures ∙ sym (ap frames_of percent ∙ frames_of-percent)

pub returns : goal.returns
returns c =
    let other = unequal c.args.field.now c.as_slice.result.now (codes "%") c.eq.result c.eq.ensures c.as_slice.ensures c.if-eq.false in
    IfOk-weaker c.members.result _ _ (λ found m. members_found c.args.field.now found other m) c.members.ensures
