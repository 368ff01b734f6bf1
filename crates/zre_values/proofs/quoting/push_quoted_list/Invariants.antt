use Rattle.std.proofs.Common.{◌≡◌, ◌∷◌, ◌++◌, [], drop}
use Rattle.std.specs.List.{flat_map}
use Rattle.zre_values.specs.Text.{quoted, quoted_list}
use Rattle.zre_values.proofs.quoting.push_quoted_list.Given as goal

abbrev pub invariant-loop-frame : goal.invariant-loop-frame
invariant-loop-frame l = l.out ++ flat_map (λ y. (44 ∷ []) ++ quoted y) (drop l.frame-index l.others) ≡ l.fn.out ++ quoted_list l.list
