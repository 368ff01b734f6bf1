use Rattle.std.proofs.Common.{◌≡◌, length}
use Rattle.zre_capture.specs.Parts.{between}
use Rattle.zre_capture.specs.Values.{are_groups}
use Rattle.zre_capture.proofs.list.are_members.Given as goal

abbrev pub invariant-members : goal.invariant-members
invariant-members l = are_groups (between 44 l.rest) ≡ are_groups (between 44 l.field)

abbrev pub decreases-members : goal.decreases-members
decreases-members l = length l.rest
