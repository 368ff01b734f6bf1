-- What a list ends as, where a `&mut` to one of its values is returned.
use Rattle.std.specs.Prelude.{ℕ, List, slice_set}
use Rattle.std.specs.Borrow.{Lends, Fml, RattleType, MutBor}
use Rattle.zre_values.specs.contracts.list.List.{the_row}

-- once the borrow r ends, the value at i is the last one written through r
abbrev pub lends_value : (T : RattleType) → MutBor (List T.Denot) → ℕ → MutBor T.Denot → Fml
lends_value T s i r = Lends (the_row T) T s r (slice_set s.now i)
