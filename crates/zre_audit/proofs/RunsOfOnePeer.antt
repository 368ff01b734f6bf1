-- The map of runs, with those of one peer changed.
use Rattle.std.proofs.Common.{◌≡◌, ℕ, zero, suc, ◌+◌, ◌<◌, Bool, true, false, cond, List, [], ◌∷◌, ◌++◌, length, Option, Some, refl, sym, ap, ◌∙◌, arith, bytes_eq, slice_set, slice_index_or}
use Rattle.std.proofs.lemmas.Map.Text.{is_eq-slice_cmp}
use Rattle.std.proofs.lemmas.Slice.Eq.{bytes_eq-Decides}
use Rattle.std.specs.BTreeMap as tree
use Rattle.std.specs.BTreeMap.{is_at}
use Rattle.std.specs.Cmp.Lexicographic.{slice_cmp}
use Rattle.std.specs.Option.{unwrap_or}
use Rattle.std.specs.Ordering.{nat_cmp}
use Rattle.std.specs.declared.cmp.Ordering.{Ordering}
use Rattle.zre_audit.specs.Told.{Runs, runs_in, at_last}

abbrev C : List ℕ → List ℕ → Ordering
C x y = slice_cmp nat_cmp x y

-- n is m with x in the place of id
abbrev pub Changes : Runs → Runs → List ℕ → List (List ℕ) → Type 0
Changes m n id x = (q : List ℕ) → tree.get (slice_cmp nat_cmp) n q ≡ cond (is_at (slice_cmp nat_cmp id) q) (Some x) (tree.get (slice_cmp nat_cmp) m q)

pub changed : (m n : Runs) (id : List ℕ) (x : List (List ℕ)) (F : List (List ℕ) → List (List ℕ)) → Changes m n id x → x ≡ F (runs_in m id) → (p : List ℕ) → runs_in n p ≡ cond (bytes_eq id p) (F (runs_in m p)) (runs_in m p)
changed m n id x F u f p = ap (λ o. unwrap_or o []) (u p ∙ ap (λ b. cond b (Some x) (tree.get (slice_cmp nat_cmp) m p)) (is_eq-slice_cmp id p)) ∙ by (bytes_eq id p) refl
  where
    by : (b : Bool) → bytes_eq id p ≡ b → unwrap_or (cond b (Some x) (tree.get (slice_cmp nat_cmp) m p)) [] ≡ cond b (F (runs_in m p)) (runs_in m p)
    by true q = let same = (bytes_eq-Decides id p).0 q in f ∙ ap (λ k. F (runs_in m k)) same
    by false q = refl

-- where nothing is changed
pub unchanged : (m n : Runs) (id : List ℕ) (F : List (List ℕ) → List (List ℕ)) → n ≡ m → runs_in m id ≡ F (runs_in m id) → (p : List ℕ) → runs_in n p ≡ cond (bytes_eq id p) (F (runs_in m p)) (runs_in m p)
unchanged m n id F e f p = ap (λ r. runs_in r p) e ∙ by (bytes_eq id p) refl
  where
    by : (b : Bool) → bytes_eq id p ≡ b → runs_in m p ≡ cond b (F (runs_in m p)) (runs_in m p)
    by true q = let same = (bytes_eq-Decides id p).0 q in ap (runs_in m) (sym same) ∙ f ∙ ap (λ k. F (runs_in m k)) same
    by false q = refl

pub found : (m : Runs) (id : List ℕ) (o : Option (List (List ℕ))) → o ≡ tree.get (slice_cmp nat_cmp) m id → runs_in m id ≡ unwrap_or o []
found m id o e = ap (λ p. unwrap_or p []) (sym e)

-- ---- the last of some lists

pub last_set : (octets : List ℕ) (xs : List (List ℕ)) (n : ℕ) → length xs ≡ n + 1 → slice_set xs n (slice_index_or xs n [] ++ octets) ≡ at_last octets xs
last_set octets [] n e = absurd (omega (arith, e))
last_set octets (x ∷ []) zero e = refl
last_set octets (x ∷ []) (suc n) e = absurd (omega (arith, e))
last_set octets (x ∷ y ∷ ys) zero e = absurd (omega (arith, e))
last_set octets (x ∷ y ∷ ys) (suc n) e = ap (λ zs. x ∷ zs) (last_set octets (y ∷ ys) n (omega (arith, e)))

pub last_of_none : (octets : List ℕ) (xs : List (List ℕ)) → length xs < 1 → xs ≡ at_last octets xs
last_of_none octets [] e = refl
last_of_none octets (x ∷ xs) e = absurd (omega (arith, e))
