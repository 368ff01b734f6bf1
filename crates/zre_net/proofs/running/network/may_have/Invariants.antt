use Rattle.std.proofs.Common.{◌≡◌, true, take}
use Rattle.std.specs.List.{list_all}
use Rattle.zre_net.specs.Rows.{fits_owner}
use Rattle.zre_net.proofs.running.network.may_have.Given as goal

abbrev pub invariant-loop-owner : goal.invariant-loop-owner
invariant-loop-owner l = list_all (fits_owner l.node l.id) (take l.owner-index l.owners) ≡ true
