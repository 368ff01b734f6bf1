use Rattle.std.proofs.Common.{◌≡◌, length}
use Rattle.std.specs.Prelude.{is_some}
use Rattle.zre_capture.specs.Headers.{headers_in}
use Rattle.zre_capture.specs.Parts.{between}
use Rattle.zre_capture.proofs.headers.are_members.Given as goal

abbrev pub invariant-members : goal.invariant-members
invariant-members l = is_some (headers_in (between 44 l.rest)) ≡ is_some (headers_in (between 44 l.field))

abbrev pub decreases-members : goal.decreases-members
decreases-members l = length l.rest
