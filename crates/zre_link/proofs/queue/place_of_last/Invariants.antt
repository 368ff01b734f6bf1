use Rattle.std.proofs.Common.{◌≡◌, ◌+◌, ◌≤◌, length, drop}
use Rattle.std.specs.List.{concat}
use Rattle.zre_link.proofs.queue.place_of_last.Given as goal

abbrev pub invariant-parts : goal.invariant-parts
invariant-parts l = (l.first ≤ length l.parts.items) × (l.left + length (concat (drop l.first l.parts.items)) ≡ l.count)

abbrev pub decreases-parts : goal.decreases-parts
decreases-parts l = l.first
