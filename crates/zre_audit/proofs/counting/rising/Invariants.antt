use Rattle.std.proofs.Common.{◌≡◌, ℕ, List, Bor, map, take}
use Rattle.zre_audit.proofs.counting.rising.Given as goal

abbrev pub invariant-loop-list : goal.invariant-loop-list
invariant-loop-list l = map (λ (r : Bor (List ℕ)). r.now) l.rising.items ≡ take l.list-index l.lists
