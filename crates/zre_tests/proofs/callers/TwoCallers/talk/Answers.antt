use Rattle.std.proofs.Common.{◌≡◌, ◌∷◌, ◌++◌, [], ap, ◌∙◌, subst, sym, arith}
use Rattle.std.proofs.lemmas.List.Elements.{All-push}
use Rattle.zre_actor.specs.Passes.{IsCallerOf, AreCallersOf, number, ended, how_many}
use Rattle.zre_tests.proofs.Given.{with_one}
use Rattle.zre_tests.proofs.callers.TwoCallers.talk.Goals as goal

-- ---- the second took in the first one's pass

pub returns-then-absorbs-clause-pipes : goal.returns-then-absorbs-clause-pipes
returns-then-absorbs-clause-pipes g c = let r = c.put_again.result in
    let given = c.give.ensures.given ∙ ap (λ l. l ++ r ∷ []) c.requires.none_given in
    subst (AreCallersOf c.args.pipes.now) (sym given) (All-push (IsCallerOf c.args.pipes.now) [] r (λ k d h. absurd (omega arith)) c.put_again.ensures.pipes)

pub returns-then-absorbs-clause-many : goal.returns-then-absorbs-clause-many
returns-then-absorbs-clause-many g c = let r = c.put_again.result in let f = c.regroup-first.result in
    let given = c.give.ensures.given ∙ ap (λ l. l ++ r ∷ []) c.requires.none_given in
    let one : ended r ≡ number f ∷ [] = c.put_again.ensures.ended ∙ c.absorb-both.ensures.ended ∙ ap (λ l. l ++ number f ∷ ended f) c.requires.second_new ∙ ap (λ l. number f ∷ l) (c.regroup-first.ensures.ended ∙ c.requires.first_new) in
    let many : how_many (r ∷ []) ≡ 2 = omega (arith, with_one r (number f) one) in
    ap how_many given ∙ many

-- ---- each has a pass of its own

pub returns-clause-pipes : goal.returns-clause-pipes
returns-clause-pipes g c = c.given_back.ensures.pipes c.args.pipes.now c.regroup-first.ensures.pipes c.put_again-second.ensures.pipes
