use Rattle.std.proofs.Common.{◌≡◌, length}
use Rattle.zre_capture.specs.Headers.{have_name}
use Rattle.zre_capture.specs.Parts.{between}
use Rattle.zre_capture.proofs.headers.have_name.Given as goal

abbrev pub invariant-members : goal.invariant-members
invariant-members l = have_name l.name (between 44 l.rest) ≡ have_name l.name (between 44 l.field)

abbrev pub decreases-members : goal.decreases-members
decreases-members l = length l.rest
