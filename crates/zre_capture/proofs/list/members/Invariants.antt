use Rattle.std.proofs.Common.{◌≡◌, ◌++◌, length}
use Rattle.std.specs.Prelude.{map}
use Rattle.zre_capture.specs.Parts.{between}
use Rattle.zre_capture.specs.Values.{are_groups, unquoted}
use Rattle.zre_capture.proofs.list.members.Given as goal

abbrev pub invariant-members : goal.invariant-members
invariant-members l = record {
  good : are_groups (between 44 l.rest) ≡ are_groups (between 44 l.field);
  read : l.frames ++ map unquoted (between 44 l.rest) ≡ map unquoted (between 44 l.field);
}

abbrev pub decreases-members : goal.decreases-members
decreases-members l = length l.rest
