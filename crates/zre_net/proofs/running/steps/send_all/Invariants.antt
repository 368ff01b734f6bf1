use Rattle.std.proofs.Common.{◌≡◌, ◌++◌, take}
use Rattle.std.specs.List.{filter_map}
use Rattle.zre_net.specs.Rows.{sent_in}
use Rattle.zre_net.proofs.running.steps.send_all.Given as goal

abbrev pub invariant-loop-act : goal.invariant-loop-act
invariant-loop-act l = l.beacons ≡ l.fn.beacons ++ filter_map (sent_in l.host) (take l.act-index l.acts)
