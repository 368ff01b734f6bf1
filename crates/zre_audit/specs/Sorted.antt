-- Lists of octets in the order of their octets.
use Rattle.std.specs.Prelude.{ℕ, List}
use Rattle.std.specs.Cmp.Lexicographic.{slice_cmp}
use Rattle.std.specs.List.Sorted.{IsPermutation, IsSorted}
use Rattle.std.specs.Ordering.{nat_cmp}

abbrev pub AreRising : List (List ℕ) → Type 0
AreRising lists = IsSorted (slice_cmp nat_cmp) lists

-- the second lists are the first ones, in order
pub record IsRising (lists rising : List (List ℕ)) : Type 0 where
  pub same : IsPermutation lists rising
  pub are_rising : AreRising rising
