-- How many numbers a pass has that absorbed another.
use Rattle.std.proofs.Common.{◌≡◌, ℕ, [], ◌∷◌, length, ap, arith, length-append}
use Rattle.zre_actor.specs.declared.passes.CallerPass.{CallerPass}
use Rattle.zre_actor.specs.Passes.{caller, ended, live_of}

-- one that absorbed one
pub with_one : (p : CallerPass) (n : ℕ) → ended p ≡ n ∷ [] → length (live_of p) ≡ 2
with_one p n one = omega (arith, length-append (caller p).own (ended p), ap length p.is_caller.1, ap length one)
