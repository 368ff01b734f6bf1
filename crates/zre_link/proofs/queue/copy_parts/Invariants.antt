use Rattle.std.proofs.Common.{◌≡◌, ◌-◌, ◌++◌, length, drop}
use Rattle.std.specs.List.{concat}
use Rattle.zre_link.proofs.queue.copy_parts.Given as goal

abbrev pub invariant-parts : goal.invariant-parts
invariant-parts l =
    l.out.items ++ drop l.skip (concat (drop l.next l.parts.items)) ≡ l.initial.out.items ++ drop l.skipped (concat (drop l.first l.parts.items))

abbrev pub decreases-parts : goal.decreases-parts
decreases-parts l = length l.parts.items - l.next
