use Rattle.std.proofs.Common.{◌≡◌, length}
use Rattle.zre_capture.specs.Headers.{headers_in, with_more}
use Rattle.zre_capture.specs.Parts.{between}
use Rattle.zre_capture.proofs.headers.members.Given as goal

abbrev pub invariant-members : goal.invariant-members
invariant-members l = with_more l.headers (headers_in (between 44 l.rest)) ≡ headers_in (between 44 l.field)

abbrev pub decreases-members : goal.decreases-members
decreases-members l = length l.rest
