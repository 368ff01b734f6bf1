use Rattle.std.proofs.Common.{◌∙◌, ◌++◌, ◌∷◌, [], sym, ap, subst, arith}
use mathlib.Core.List.{IsPrefix}
use Rattle.std.proofs.lemmas.List.Elements.{All-push}
use Rattle.std.specs.Arc.{arc_value}
use Rattle.zre_actor.specs.Commands.{under}
use Rattle.zre_actor.specs.Passes.{IsActorOf, IsCallerOf, IsTakerOf, AreCallersOf, AllBack, given_of, popped_by, puts_of}
use Rattle.zre_console.proofs.finishing.settle.Goals as goal

pub finish-requires-clause-pipes : goal.finish-requires-clause-pipes
finish-requires-clause-pipes g c =
    let talk = c.args.talk in let of_pipes = IsCallerOf (arc_value talk.pipes) in let last = talk.done.pass in let printed = talk.printed.pass in
    let given = c.give-2.ensures.given ∙ ap (λ ps. ps ++ printed ∷ []) (c.give.ensures.given ∙ ap (λ ps. ps ++ last ∷ []) c.requires.given) in
    subst (λ pipes. IsActorOf pipes c.args.worked.pass × AreCallersOf pipes (given_of c.give-2.new.self) × IsTakerOf pipes talk.printed.taker) (sym c.deref.ensures) (
      c.requires.pipes.0,
      subst (AreCallersOf (arc_value talk.pipes)) (sym given) (All-push of_pipes (last ∷ []) printed (All-push of_pipes [] last (λ k d h. absurd (omega arith)) c.requires.callers.0) c.requires.callers.1),
      c.requires.pipes.1,
    )

pub finish-requires-clause-back : goal.finish-requires-clause-back
finish-requires-clause-back g c =
    let talk = c.args.talk in
    let given = c.give-2.ensures.given ∙ ap (λ ps. ps ++ talk.printed.pass ∷ []) (c.give.ensures.given ∙ ap (λ ps. ps ++ talk.done.pass ∷ []) c.requires.given) in
    subst (AllBack c.args.worked.pass) (sym given) c.requires.back

pub returns-clause-fronts : goal.returns-clause-fronts
returns-clause-fronts g c = λ n. (
    let talk = c.args.talk in
    let given = c.give-2.ensures.given ∙ ap (λ ps. ps ++ talk.printed.pass ∷ []) (c.give.ensures.given ∙ ap (λ ps. ps ++ talk.done.pass ∷ []) c.requires.given) in
    subst (λ ps. IsPrefix (under n (popped_by c.args.worked.pass)) (under n (puts_of ps))) given (c.finish.ensures.fronts n))

pub returns-clause-ended : goal.returns-clause-ended
returns-clause-ended g c = λ before end n is told. (
    let talk = c.args.talk in
    let given = c.give-2.ensures.given ∙ ap (λ ps. ps ++ talk.printed.pass ∷ []) (c.give.ensures.given ∙ ap (λ ps. ps ++ talk.done.pass ∷ []) c.requires.given) in
    c.finish.ensures.ended before end n is told ∙ ap (λ ps. under n (puts_of ps)) given)
