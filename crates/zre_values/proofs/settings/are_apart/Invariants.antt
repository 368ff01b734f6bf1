use Rattle.std.proofs.Common.{◌≡◌, length}
use Rattle.zre_values.specs.Settings.{are_apart}
use Rattle.zre_values.proofs.settings.are_apart.Given as goal

abbrev pub invariant-loop-first : goal.invariant-loop-first
invariant-loop-first l = are_apart l.rest ≡ are_apart l.headers

abbrev pub decreases-loop-first : goal.decreases-loop-first
decreases-loop-first l = length l.rest
