use Rattle.std.proofs.Common.{◌≡◌, ◌∷◌, ◌++◌, [], drop}
use Rattle.std.specs.List.{flat_map}
use Rattle.zre_values.specs.Text.{quoted_pair, quoted_pairs}
use Rattle.zre_values.proofs.quoting.push_quoted_pairs.Given as goal

abbrev pub invariant-loop-pair : goal.invariant-loop-pair
invariant-loop-pair l = l.out ++ flat_map (λ y. (44 ∷ []) ++ quoted_pair y) (drop l.pair-index l.others) ≡ l.fn.out ++ quoted_pairs l.pairs
