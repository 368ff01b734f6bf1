use Rattle.std.proofs.Common.{◌≡◌, ◌++◌}
use Rattle.zre_net.proofs.running.schedule.append.Given as goal

abbrev pub invariant-loop-one : goal.invariant-loop-one
invariant-loop-one l = l.said ≡ l.fn.said ++ l.yielded
