use Rattle.std.proofs.Common.{◌≡◌, length}
use Rattle.zre_capture.specs.Headers.{are_named_apart}
use Rattle.zre_capture.specs.Parts.{between}
use Rattle.zre_capture.proofs.headers.are_named_apart.Given as goal

abbrev pub invariant-members : goal.invariant-members
invariant-members l = are_named_apart (between 44 l.rest) ≡ are_named_apart (between 44 l.field)

abbrev pub decreases-members : goal.decreases-members
decreases-members l = length l.rest
