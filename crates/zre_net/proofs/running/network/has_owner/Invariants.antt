use Rattle.std.proofs.Common.{◌≡◌, false, take}
use Rattle.std.specs.List.{list_any}
use Rattle.zre_net.specs.Rows.{is_owner}
use Rattle.zre_net.proofs.running.network.has_owner.Given as goal

abbrev pub invariant-loop-owner : goal.invariant-loop-owner
invariant-loop-owner l = list_any (is_owner l.node l.id) (take l.owner-index l.owners) ≡ false
