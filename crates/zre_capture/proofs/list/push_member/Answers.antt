use Rattle.std.proofs.Common.{◌++◌, ◌∷◌, [], List, ℕ, sym, ap, ◌∙◌}
use Rattle.zre_capture.proofs.QuotedMembers.{group_of-unquoted}
use Rattle.zre_capture.proofs.list.push_member.Goals as goal

pub returns-clause-pushed : goal.returns-clause-pushed
returns-clause-pushed c =
    let same = group_of-unquoted c.args.member.now c.in-Some.frame (sym c.in_ok-frame.ensures ∙ c.in-Some.is) in
    c.in_ok-push.ensures.ok ∙ ap (λ (v : List ℕ). c.args.frames.now ++ v ∷ []) (sym same)
