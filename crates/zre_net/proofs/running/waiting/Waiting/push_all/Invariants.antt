use Rattle.std.proofs.Common.{◌≡◌, ◌++◌}
use Rattle.zre_net.specs.Lists.{joined}
use Rattle.zre_net.proofs.running.waiting.Waiting.push_all.Given as goal

abbrev pub invariant-loop-part : goal.invariant-loop-part
invariant-loop-part l = l.self ≡ l.fn.self ++ joined l.yielded
