use Rattle.std.proofs.Common.{◌≡◌, true, drop}
use Rattle.std.specs.List.{fold}
use Rattle.zre_peer.specs.Members.{are_few, with_group, distinct}
use Rattle.zre_peer.proofs.hello.distinct_of.Given as goal

abbrev pub invariant-loop-group : goal.invariant-loop-group
invariant-loop-group l = (fold with_group l.found (drop l.group-index l.group-items) ≡ distinct l.groups) × (are_few l.found ≡ true)
