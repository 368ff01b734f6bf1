use Rattle.std.proofs.Common.{◌≡◌, ◌+◌, ◌-◌, ◌^◌, length, take, min}
use Rattle.std.specs.List.{flat_map}
use Rattle.zre_msg.specs.Spelling.{long_string}
use Rattle.zre_msg.proofs.sizes.strings_len.Given as goal

abbrev pub invariant-loop-member : goal.invariant-loop-member
invariant-loop-member l = l.len ≡ min (4 + length (flat_map long_string (take l.member-index l.member-items))) (2 ^ 64 - 1)
