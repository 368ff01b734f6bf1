use Rattle.std.proofs.Common.{◌≡◌, ◌++◌, drop}
use Rattle.std.specs.List.{flat_map}
use Rattle.zre_msg.specs.Spelling.{pair, dictionary}
use Rattle.zre_msg.proofs.writing.push_dictionary.Given as goal

abbrev pub invariant-loop-item : goal.invariant-loop-item
invariant-loop-item l = l.out ++ flat_map pair (drop l.item-index l.item-items) ≡ l.fn.out ++ dictionary l.items
