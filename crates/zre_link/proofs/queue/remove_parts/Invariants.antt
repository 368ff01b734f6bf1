use Rattle.std.proofs.Common.{length}
use Rattle.zre_link.proofs.RemovedOctets.{IsRemoving}
use Rattle.zre_link.proofs.queue.remove_parts.Given as goal

abbrev pub invariant-parts : goal.invariant-parts
invariant-parts l = IsRemoving l.initial.parts.items l.count l.parts.items l.left

abbrev pub decreases-parts : goal.decreases-parts
decreases-parts l = length l.parts.items
