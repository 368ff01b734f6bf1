use Rattle.std.proofs.Common.{◌≡◌, ◌+◌, ◌-◌, ◌^◌, length, take, min}
use Rattle.std.specs.List.{flat_map}
use Rattle.zre_msg.specs.Spelling.{pair}
use Rattle.zre_msg.proofs.sizes.dictionary_len.Given as goal

abbrev pub invariant-loop-item : goal.invariant-loop-item
invariant-loop-item l = l.len ≡ min (4 + length (flat_map pair (take l.item-index l.item-items))) (2 ^ 64 - 1)
