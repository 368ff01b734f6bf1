use Rattle.std.proofs.Common.{◌≡◌, ◌++◌, drop}
use Rattle.zre_commands.specs.show.Lines.{lines}
use Rattle.zre_commands.proofs.show.lines.push_lines.Given as goal

abbrev pub invariant-loop-item : goal.invariant-loop-item
invariant-loop-item l = l.out ++ lines (drop l.item-index l.items) ≡ l.initial.out ++ lines l.items
