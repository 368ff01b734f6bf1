use Rattle.std.proofs.Common.{◌≡◌, ◌∙◌, ◌++◌, ◌∷◌, [], ◌+◌, ◌≤◌, length, ap, sym, subst, arith}
use Rattle.std.specs.Arc.{arc_value}
use Rattle.std.proofs.lemmas.List.{length-map}
use Rattle.zre_actor.specs.Commands.{times, row}
use Rattle.zre_actor.specs.Passes.{IsActorOf, IsCallerOf, IsTakerOf, AreCallersOf, IsNew, number, numbers_of, fresh_of}
use Rattle.zre_actor.proofs.ConsecutiveNumbers.{length_row}
use Rattle.zre_console.proofs.CallerNumbers.{laid_apart, laid_many}
use Rattle.zre_console.proofs.table.Table.lay.Goals as goal

-- the two callers of new pipes are there
pub take_two-last-requires : goal.take_two-last-requires
take_two-last-requires c =
    let fresh = fresh_of c.in_ok-pipes.field-0.callers in
    let long : length (numbers_of fresh) ≡ length (row 1 (c.args.more + 2)) = ap length c.in_ok-pipes.ensures.numbers in
    omega (arith, long, length_row 1 (c.args.more + 2), length-map fresh number)

pub returns-clause-laid : goal.returns-clause-laid
returns-clause-laid c =
    let m = c.in_ok-pipes.ensures in
    let made = c.in_ok-pipes.field-0 in
    let s = c.in_ok-pipes-2.ensures in
    let shares = c.in_ok-pipes-2.field-0 in
    let all : made.pipes ≡ arc_value shares.pipes = sym s.0 in
    let two = c.take_two-last.ensures in
    let last = c.take_two-last.result.0 in
    let asker = c.take_two-last.result.1 in
    let callers = two.pipes made.pipes m.pipes.2 in
    let new = two.new m.new in
    record {
      node_args = record {
        same = s.1 ∙ all;
        of_pipes = subst (λ ps. IsActorOf ps made.actor) all m.pipes.0;
        unused = m.unused;
        none_popped = m.popped.0;
        no_finds = m.popped.1;
        none_raised = m.events.0;
        no_ending = m.events.1;
      };
      last = (
        c.in_ok-last.ensures.pipes,
        subst (IsCallerOf (arc_value shares.pipes)) (sym c.in_ok-last.ensures.pass) (subst (λ ps. IsCallerOf ps last) all callers.1),
        subst IsNew (sym c.in_ok-last.ensures.pass) new.1,
      );
      of_asker = subst (λ ps. IsCallerOf ps asker) all callers.2;
      of_taker = subst (λ ps. IsTakerOf ps made.taker) all m.pipes.1;
      new_asker = new.2;
      none_given = two.given.0 ∙ m.given.0;
      room = omega (arith, m.given.1, two.given.1);
      none_taken = m.events.2;
      no_last = m.events.3;
    }

pub returns-clause-more : goal.returns-clause-more
returns-clause-more c =
    let m = c.in_ok-pipes.ensures in
    let made = c.in_ok-pipes.field-0 in
    let shares = c.in_ok-pipes-2.field-0 in
    let two = c.take_two-last in
    let asker = two.result.1 in
    let fresh = fresh_of two.new.callers in
    let numbers : numbers_of ((fresh ++ asker ∷ []) ++ two.result.0 ∷ []) ≡ row 1 (c.args.more + 2) = ap numbers_of (sym two.ensures.taken) ∙ m.numbers in
    record {
      are_callers = subst (λ ps. AreCallersOf ps fresh) (sym c.in_ok-pipes-2.ensures.0) (two.ensures.pipes made.pipes m.pipes.2).0;
      are_new = (two.ensures.new m.new).0;
      are_many = laid_many fresh asker two.result.0 c.args.more numbers;
      apart = λ n. subst (λ p. times n (number p ∷ number asker ∷ numbers_of fresh) ≤ 1) (sym c.in_ok-last.ensures.pass) (laid_apart fresh asker two.result.0 (c.args.more + 2) numbers n);
    }
