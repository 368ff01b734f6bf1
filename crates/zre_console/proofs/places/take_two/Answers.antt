use Rattle.std.proofs.Common.{◌≡◌, ◌∙◌, ◌++◌, ◌∷◌, [], length, length-append, ap, arith}
use Rattle.zre_actor.specs.Passes.{fresh_of}
use Rattle.zre_console.proofs.places.take_two.Goals as goal

pub returns-clause-taken : goal.returns-clause-taken
returns-clause-taken c = c.in-Some.ensures.taken ∙ ap (λ ps. ps ++ c.in-Some.last ∷ []) c.in-Some-take.ensures.taken

pub returns-clause-pipes : goal.returns-clause-pipes
returns-clause-pipes c = λ pipes are. (
    let one = c.in-Some.ensures.pipes pipes are in let two = c.in-Some-take.ensures.pipes pipes one.0 in (two.0, one.1, two.1))

pub returns-clause-new : goal.returns-clause-new
returns-clause-new c = λ are. (
    let one = c.in-Some.ensures.new are in let two = c.in-Some-take.ensures.new one.0 in (two.0, one.1, two.1))

pub returns-clause-given : goal.returns-clause-given
returns-clause-given c =
    let one = c.in-Some.ensures.given in let two = c.in-Some-take.ensures.given in (two.0 ∙ one.0, two.1 ∙ one.1)

pub unreachable-requires : goal.unreachable-requires
unreachable-requires c =
    let none : length (fresh_of c.args.callers.now) ≡ 0 = ap length c.in_default.ensures.taken.0 in
    omega (arith, c.requires, none)

pub unreachable-requires-in_default-take : goal.unreachable-requires-in_default-take
unreachable-requires-in_default-take c =
    let rest = fresh_of c.take.new.self in
    let one : length (fresh_of c.args.callers.now) ≡ length (rest ++ c.in-Some.last ∷ []) = ap length c.in-Some.ensures.taken in
    let none : length rest ≡ 0 = ap length c.in_default-take.ensures.taken.0 in
    omega (arith, c.requires, one, none, length-append rest (c.in-Some.last ∷ []))
