use Rattle.std.proofs.Common.{◌≡◌, ◌++◌, take}
use Rattle.zre_mailbox.specs.Talk.{arrivals_in}
use Rattle.zre_mailbox.proofs.taking.take_items.Given as goal

abbrev pub invariant-loop-item : goal.invariant-loop-item
invariant-loop-item l = l.out ≡ l.initial.out ++ arrivals_in (take l.item-index l.items)
