-- How many numbers passes have that were given back.
use Rattle.std.proofs.Common.{◌≡◌, ℕ, ◌+◌, [], ◌∷◌, length, ap, arith, length-append}
use Rattle.zre_actor.specs.declared.passes.CallerPass.{CallerPass}
use Rattle.zre_actor.specs.Passes.{caller, ended, live_of, how_many}

live_length : (p : CallerPass) → length (live_of p) ≡ 1 + length (ended p)
live_length p = omega (arith, length-append (caller p).own (ended p), ap length p.is_caller.1)

-- one that absorbed so many, and one that absorbed none
pub how_back : (p q : CallerPass) (k : ℕ) → length (ended p) ≡ k → ended q ≡ [] → how_many (p ∷ q ∷ []) ≡ k + 2
how_back p q k many none = omega (arith, live_length p, live_length q, many, ap length none)

pub two_alone : (p q : CallerPass) → ended p ≡ [] → ended q ≡ [] → how_many (p ∷ q ∷ []) ≡ 2
two_alone p q none none' = how_back p q 0 (ap length none) none'
