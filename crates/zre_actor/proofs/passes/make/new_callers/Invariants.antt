use Rattle.std.proofs.Common.{◌≡◌, ◌≤◌, ◌-◌, ◌+◌, true, [], All}
use Rattle.std.specs.Prelude.{vec_len, vec_capacity}
use Rattle.crossbeam_queue.specs.Passes.{view, IsPassOf}
use Rattle.zre_actor.specs.Passes.{numbers_of, IsNew}
use Rattle.zre_actor.specs.Commands as commands
use Rattle.zre_actor.proofs.passes.make.new_callers.Given as goal

abbrev pub invariant-loop-number : goal.invariant-loop-number
invariant-loop-number l = record {
  actor : IsPassOf l.commands l.actor × (view l.actor ≡ commands.view true [] [] [] (commands.row (1 + l.number) (16 - l.number)) []);
  passes : All (λ p. IsPassOf l.commands p.commands) l.fresh.items;
  new : All IsNew l.fresh.items;
  numbers : numbers_of l.fresh.items ≡ commands.row 1 l.number;
  room : (vec_len l.fresh ≡ l.number) × (l.count ≤ vec_capacity l.fresh);
}
