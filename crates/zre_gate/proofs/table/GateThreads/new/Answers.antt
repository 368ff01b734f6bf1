use Rattle.std.proofs.Common.{◌≤◌, ◌∙◌, subst, arith}
use Rattle.std.specs.Prelude.{vec_capacity}
use Rattle.zre_gate.proofs.table.GateThreads.new.Goals as goal

pub returns-clause-unused : goal.returns-clause-unused
returns-clause-unused g c =
    let l = c.requires.unused in let m = c.requires.more in let all_args = c.in_ok-all_args.ensures in
    record {
      base = record {
        node_args = l.node_args;
        last = l.last;
        of_asker = l.of_asker;
        of_taker = l.of_taker;
        new_asker = l.new_asker;
        none_given = all_args.given.0 ∙ l.none_given;
        room = omega (arith, all_args.given.1, l.room);
        none_taken = l.none_taken;
        no_last = l.no_last;
      };
      are_args = all_args.all_args;
      many_args = all_args.many;
      apart = λ n. (let most = m.apart n in let same = all_args.numbers n in omega (arith, most, same));
      capacity = (c.in_ok-left.ensures.items, subst (λ n. n ≤ vec_capacity c.in_ok-left.left) c.from.ensures c.in_ok-left.ensures.capacity);
    }
