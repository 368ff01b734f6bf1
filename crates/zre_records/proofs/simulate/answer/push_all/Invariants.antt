use Rattle.std.proofs.Common.{◌≡◌, ◌++◌, take}
use Rattle.zre_records.specs.simulate.Simulate.{told_lines}
use Rattle.zre_records.proofs.simulate.answer.push_all.Given as goal

abbrev pub invariant-loop-one : goal.invariant-loop-one
invariant-loop-one l = l.out ≡ l.fn.out ++ told_lines (take l.one-index l.told)
