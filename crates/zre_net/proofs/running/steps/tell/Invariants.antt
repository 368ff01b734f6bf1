use Rattle.std.proofs.Common.{◌≡◌, ◌++◌, map}
use Rattle.zre_net.proofs.running.steps.tell.Given as goal

abbrev pub invariant-loop-event : goal.invariant-loop-event
invariant-loop-event l = l.said ≡ l.fn.said ++ map (λ e. (l.node, e)) l.yielded
