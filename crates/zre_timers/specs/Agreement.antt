-- A map from keys to moments, and the same pairs in the order of their moments.
use Rattle.std.specs.Prelude.{◌≡◌, ℕ, ◌==◌, ◌<◌, ◌^◌, false, IsSome}
use Rattle.std.specs.declared.cmp.Ordering.{Ordering}
use Rattle.std.specs.BTreeMap as tree
use Rattle.std.specs.BTreeSet as set
use Rattle.std.specs.Option.{option_map_or}
use Rattle.std.specs.Ordering.{nat_cmp, ordering_then}

abbrev pub by_moment : ℕ × ℕ → ℕ × ℕ → Ordering
by_moment x y = ordering_then (nat_cmp x.0 y.0) (nat_cmp x.1 y.1)

pub record Agree (moments : tree.BTreeMap ℕ ℕ) (queue : set.BTreeSet (ℕ × ℕ)) : Type 0 where
  -- the queue has each key with its moment, and no other pair
  pub pairs : (at key : ℕ)
      → set.contains by_moment queue (at, key) ≡ option_map_or (λ moment. moment == at)
      (tree.get nat_cmp moments key) false
  pub small : (key : ℕ) → IsSome (tree.get nat_cmp moments key) → key < 2 ^ 64
