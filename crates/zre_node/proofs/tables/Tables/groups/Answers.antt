use Rattle.std.proofs.Common.{◌++◌, ◌∷◌, [], ap, sym, ◌∙◌, List, ℕ, Some}
use Rattle.zre_node.proofs.CopiedLists.{take_next}
use Rattle.zre_node.proofs.tables.Tables.groups.Goals as goal

pub loop-i-preserved : goal.loop-i-preserved
loop-i-preserved c =
    c.in_ok-push.ensures.ok ∙ ap (λ (gs : List (List ℕ)). gs ++ c.in_ok-copy.field-0 ∷ []) c.loop-i.invariant
    ∙ sym (take_next c.args.self.now.own.groups c.loop-i.i c.in_ok-copy.field-0 (rw c.len-i-end.ensures.exact at c.loop-i-test.true) (c.get.ensures ∙ ap (λ (o : List ℕ). Some o) (sym c.in_ok-copy.ensures)))
