-- An entered peer has spoken.
use Rattle.std.proofs.Common.{◌≡◌, ℕ, Bool, true, false, cond, eqb, List, [], ◌∷◌, ◌++◌, Some, None, refl}
use Rattle.std.specs.Option.{option_or}
use Rattle.zre_journal.specs.Chronicle.{Mark, Starts, Counts, followed}
use Rattle.zre_journal.specs.Peers.{runner, counted}

-- a list with one more isn't empty
not_empty : {A : Type 0} (xs : List A) (a : A) → xs ++ a ∷ [] ≡ [] → ⊥
not_empty [] a e = cc
not_empty (x ∷ xs) a e = cc

-- where no message of a run was taken, none has started
pub unheard_idle : (l : ℕ) (H : List Mark) → counted l H ≡ [] → runner l H ≡ None
unheard_idle l [] e = refl
unheard_idle l (Starts c k m ∷ H) e = by (unheard_idle l H) (eqb l k) e
  where
    by : (counted l H ≡ [] → runner l H ≡ None) → (b : Bool) → followed (counted l H) (cond b (Some m) None) ≡ [] → option_or (cond b (Some c) None) (runner l H) ≡ None
    by r true z = absurd (not_empty (counted l H) m z)
    by r false z = r z
unheard_idle l (Counts c k m ∷ H) e = by (unheard_idle l H) (eqb l k) e
  where
    by : (counted l H ≡ [] → runner l H ≡ None) → (b : Bool) → followed (counted l H) (cond b (Some m) None) ≡ [] → runner l H ≡ None
    by r true z = absurd (not_empty (counted l H) m z)
    by r false z = r z
unheard_idle l (_ ∷ H) e = unheard_idle l H e
