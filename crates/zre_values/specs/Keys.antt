-- Lists of keys as sets.
use Rattle.std.specs.Prelude.{◌≡◌, ℕ, ◌==◌, ◌||◌, Bool, List, [], ◌∷◌, refl}
use Rattle.std.specs.Cmp.{nat_cmp_total, nat_eq_equiv, unsigned_tied}
use Rattle.std.specs.List.{list_any}
use Rattle.std.specs.List.Sorted.{IsStrictlyIncreasing}
use Rattle.std.specs.Ordering.{nat_cmp, eq_by_cmp}
use Rattle.std.proofs.Common.{sym, ◌∙◌}
use Rattle.std.proofs.lemmas.Map.Keys.{sorted_from_strictly_increasing}
use Rattle.std.proofs.lemmas.Map.Lookups.{btree_set_from_contains, exact_unsigned}

-- the keys that pass the test, each once, in rising order
pub record IsRisingListOf (test : ℕ → Bool) (keys : List ℕ) : Type 0 where
  pub rising : IsStrictlyIncreasing keys
  pub members : (key : ℕ) → list_any (λ k. k == key) keys ≡ test key

-- a search by order finds what a search by `==` finds
pub by_order : (keys : List ℕ) (key : ℕ) → list_any (eq_by_cmp nat_cmp key) keys ≡ list_any (λ k. k == key) keys
by_order [] key = refl
by_order (k ∷ keys) key = λ i. (unsigned_tied key k ∙ nat_eq_equiv.symm key k) i || by_order keys key i

-- there is one such list
pub same_rising_list : (test : ℕ → Bool) (xs ys : List ℕ) → IsRisingListOf test xs → IsRisingListOf test ys → xs ≡ ys
same_rising_list test xs ys p q =
    btree_set_from_contains nat_cmp_total (record { keys = xs }) (record { keys = ys })
    (sorted_from_strictly_increasing xs p.rising) (sorted_from_strictly_increasing ys q.rising)
    (λ key. by_order xs key ∙ p.members key ∙ sym (by_order ys key ∙ q.members key)) exact_unsigned
