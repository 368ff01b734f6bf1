use Rattle.std.proofs.Common.{◌≡◌, ◌++◌, drop}
use Rattle.zre_values.proofs.pairs.Pairs.copy.Given as goal

abbrev pub invariant-loop-pair : goal.invariant-loop-pair
invariant-loop-pair l = l.copied ++ drop l.pair-index l.pair-items ≡ l.pairs
