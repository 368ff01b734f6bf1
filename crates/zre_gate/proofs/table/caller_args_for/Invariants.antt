use Rattle.std.proofs.Common.{◌≡◌, ◌+◌, ℕ, map, length}
use Rattle.std.specs.Prelude.{All}
use Rattle.std.specs.Arc.{arc_value}
use Rattle.zre_actor.specs.Commands.{times}
use Rattle.zre_actor.specs.Passes.{AreCallersOf, IsNew, fresh_of, given_of, room_of, numbers_of}
use Rattle.zre_console.specs.Tables.{AreCallerArgs}
use Rattle.zre_gate.specs.Tables.{caller_number}
use Rattle.zre_gate.proofs.table.caller_args_for.Given as goal

abbrev pub invariant-each : goal.invariant-each
invariant-each l = record {
  pipes : AreCallersOf (arc_value l.pipes) (fresh_of l.callers);
  new : All IsNew (fresh_of l.callers);
  count : length (fresh_of l.callers) + l.counter ≡ l.many;
  all_args : All (AreCallerArgs (arc_value l.pipes)) l.all_args.items;
  made : length l.all_args.items ≡ l.counter;
  numbers : (n : ℕ) → times n (map caller_number l.all_args.items) + times n (numbers_of (fresh_of l.callers)) ≡ times n (numbers_of (fresh_of l.fn.callers));
  given : (given_of l.callers ≡ given_of l.fn.callers) × (room_of l.callers ≡ room_of l.fn.callers);
}
