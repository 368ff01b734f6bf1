use Rattle.std.proofs.Common.{◌≡◌, ◌++◌}
use Rattle.std.specs.Vec.Iter.{into_iter_items}
use Rattle.crossbeam_queue.specs.Passes.{view, IsPassOf}
use Rattle.zre_actor.proofs.AllCallersGathered.{gathered}
use Rattle.zre_actor.proofs.passes.Pipes.finish.Given as goal

abbrev pub invariant-loop-pass : goal.invariant-loop-pass
invariant-loop-pass g l = record {
  seat : IsPassOf l.self.commands l.commands;
  rest : l.fn.callers.given.items ≡ l.yielded ++ into_iter_items l.pass-iterator;
  view_is : view l.commands ≡ gathered (view l.fn.actor.commands) l.yielded;
}
