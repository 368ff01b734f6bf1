use Rattle.std.proofs.Common.{◌∷◌, ◌++◌, [], ap, ◌∙◌, subst, sym, arith}
use Rattle.std.proofs.lemmas.List.Elements.{All-push}
use Rattle.zre_actor.specs.Passes.{IsCallerOf, AreCallersOf, how_many}
use Rattle.zre_actor.proofs.NumbersGivenBack.{two_alone}
use Rattle.zre_tests.proofs.callers.given_back.Goals as goal

pub returns-clause-pipes : goal.returns-clause-pipes
returns-clause-pipes c = λ pipes of_first of_second. let p = c.args.first in let q = c.args.second in
    let given = c.give-2.ensures.given ∙ ap (λ l. l ++ q ∷ []) (c.give.ensures.given ∙ ap (λ l. l ++ p ∷ []) c.requires.back.0) in
    subst (AreCallersOf pipes) (sym given) (All-push (IsCallerOf pipes) (p ∷ []) q (All-push (IsCallerOf pipes) [] p (λ k d h. absurd (omega arith)) of_first) of_second)

pub returns-clause-many : goal.returns-clause-many
returns-clause-many c = let p = c.args.first in let q = c.args.second in
    let given = c.give-2.ensures.given ∙ ap (λ l. l ++ q ∷ []) (c.give.ensures.given ∙ ap (λ l. l ++ p ∷ []) c.requires.back.0) in
    ap how_many given ∙ two_alone p q c.requires.new.0 c.requires.new.1
