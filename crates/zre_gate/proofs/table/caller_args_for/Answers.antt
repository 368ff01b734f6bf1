use Rattle.std.proofs.Common.{◌≡◌, ◌∙◌, ◌++◌, ◌∷◌, [], map, length, length-append, sym, ap, subst, arith}
use Rattle.std.specs.Prelude.{All}
use Rattle.std.specs.Arc.{arc_value}
use Rattle.std.proofs.lemmas.List.{map-append}
use Rattle.std.proofs.lemmas.List.Elements.{All-push}
use Rattle.zre_actor.specs.Commands.{times}
use Rattle.zre_actor.specs.Passes.{IsCallerOf, IsNew, fresh_of, numbers_of, number}
use Rattle.zre_actor.proofs.SumsOverPasses.{times-append}
use Rattle.zre_console.specs.Tables.{AreCallerArgs}
use Rattle.zre_gate.specs.Tables.{caller_number}
use Rattle.zre_gate.proofs.table.caller_args_for.Goals as goal

pub each-preserved : goal.each-preserved
each-preserved c =
    let i = c.each.invariant in let pass = c.in-Some.pass in let caller = c.in_ok-caller_args.field-0 in let one = c.in-Some.ensures in
    let old = c.each.all_args.items in let rest = fresh_of c.take.new.self in
    let pushed = c.in_ok-push_back.ensures.items in
    let callers = one.pipes (arc_value c.args.pipes.now) i.pipes in
    let new = one.new i.new in
    let same = c.in_ok-caller_args.ensures.pass in
    let count : length (fresh_of c.each.callers) ≡ length (rest ++ pass ∷ []) = ap length one.taken in
    record {
      pipes = callers.0;
      new = new.0;
      count = omega (arith, i.count, count, length-append rest (pass ∷ []));
      all_args = subst (All (AreCallerArgs (arc_value c.args.pipes.now))) (sym pushed) (All-push (AreCallerArgs (arc_value c.args.pipes.now)) old caller i.all_args
          (c.in_ok-caller_args.ensures.pipes, subst (IsCallerOf (arc_value c.args.pipes.now)) (sym same) callers.1, subst IsNew (sym same) new.1));
      made = ap length pushed ∙ omega (arith, i.made, length-append old (caller ∷ []));
      numbers = λ n. (
          let made = ap (λ xs. times n (map caller_number xs)) pushed ∙ ap (times n) (map-append caller_number old (caller ∷ [])) ∙ times-append n (map caller_number old) (caller_number caller ∷ []) in
          let left = ap (λ xs. times n (numbers_of xs)) one.taken ∙ ap (times n) (map-append number rest (pass ∷ [])) ∙ times-append n (numbers_of rest) (number pass ∷ []) in
          let is = ap (λ p. times n (number p ∷ [])) same in
          let all = i.numbers n in
          omega (arith, made, left, is, all));
      given = (one.given.0 ∙ i.given.0, one.given.1 ∙ i.given.1);
    }
