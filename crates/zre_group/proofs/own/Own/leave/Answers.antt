use Rattle.std.proofs.Common.{ℕ, ◌≤◌, List, [], ◌∷◌, length, true, false, cond, arith}
use Rattle.std.specs.Str.{bytes_eq}
use Rattle.zre_values.specs.Lists.{without}
use Rattle.zre_group.proofs.own.Own.leave.Goals as goal

length-without : (x : List ℕ) (ys : List (List ℕ)) → length (without x ys) ≤ length ys
length-without x [] = omega arith
length-without x (y ∷ ys) =
    let rest = length-without x ys in
    elim (bytes_eq y x) as (λ b. length (cond b ys (y ∷ without x ys)) ≤ length (y ∷ ys)) [ true ↦ omega arith | false ↦ omega arith ]

pub invariant_of-self : goal.invariant_of-self
invariant_of-self c = rw c.remove_first.ensures (let shorter = length-without c.args.group.now c.self.inside.groups in omega (arith, c.self.invariant))
