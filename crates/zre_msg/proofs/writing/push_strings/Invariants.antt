use Rattle.std.proofs.Common.{◌≡◌, ◌++◌, drop}
use Rattle.std.specs.List.{flat_map}
use Rattle.zre_msg.specs.Spelling.{long_string, strings}
use Rattle.zre_msg.proofs.writing.push_strings.Given as goal

abbrev pub invariant-loop-member : goal.invariant-loop-member
invariant-loop-member l = l.out ++ flat_map long_string (drop l.member-index l.member-items) ≡ l.fn.out ++ strings l.members
