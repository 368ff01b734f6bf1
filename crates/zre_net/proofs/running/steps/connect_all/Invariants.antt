use Rattle.std.proofs.Common.{◌≡◌, ◌++◌, take}
use Rattle.std.specs.List.{filter_map}
use Rattle.zre_net.specs.Rows.{way_in}
use Rattle.zre_net.proofs.running.steps.connect_all.Given as goal

abbrev pub invariant-loop-act : goal.invariant-loop-act
invariant-loop-act l = l.links ≡ l.fn.links ++ filter_map (way_in l.start) (take l.act-index l.acts)
