use Rattle.std.proofs.Common.{ℕ, List, nat_eq, sym, ap, ◌∙◌}
use Rattle.zre_audit.specs.Prefixes.{begins}
use Rattle.zre_audit.proofs.OrderedPrefixes.{begins-is}
use Rattle.zre_records.proofs.audit.SameNodeInPieces.{seen_same}
use Rattle.zre_records.proofs.audit.again.is_same.Goals as goal

pub returns-in-Some : goal.returns-in-Some
returns-in-Some c = λ told o k.
    c.starts_with.ensures.value ∙ sym (begins-is c.as_slice-in-Some.result.now c.as_slice.result.now)
    ∙ ap (λ (h : List ℕ). begins nat_eq h c.as_slice.result.now) c.as_slice-in-Some.ensures
    ∙ ap (begins nat_eq c.in-Some.again.own) c.as_slice.ensures
    ∙ seen_same told o c.args.again.now c.in-Some.again c.in-Some.is k
