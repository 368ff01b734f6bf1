-- The table of some writes: for each key the greatest of its writes, the keys rising by their octets.
use Rattle.std.specs.Prelude.{◌≡◌, false, List, [], ◌∷◌, if◌then◌else◌, All, Contains}
use Rattle.std.specs.Cmp.Lexicographic.{slice_cmp}
use Rattle.std.specs.List.Sorted.{IsStrictlySortedBy}
use Rattle.std.specs.Ordering.{nat_cmp, ordering_then, match_ordering, is_lt, is_gt}
use Rattle.std.specs.declared.cmp.Ordering.{Ordering}
use Rattle.std.specs.declared.cmp.Ordering.TheVariants.{Equal}
use Rattle.zre_shared.specs.declared.write.Write.{Write}

-- writes by their keys
abbrev pub by_key : Write → Write → Ordering
by_key v w = slice_cmp nat_cmp v.key w.key

-- by the octets of the identity, then by those of the value
abbrev pub by_octets : Write → Write → Ordering
by_octets v w = ordering_then (slice_cmp nat_cmp v.id.0 w.id.0) (slice_cmp nat_cmp v.value w.value)

-- writes of one key by which lasts: by the count, then by the octets
abbrev pub by_age : Write → Write → Ordering
by_age v w = ordering_then (nat_cmp v.count w.count) (by_octets v w)

-- the greater of two
abbrev pub greater : Write → Write → Write
greater w v = if is_lt (by_age v w) then w else v

-- a table with one more write
abbrev pub put : Write → List Write → List Write
put w [] = w ∷ []
put w (v ∷ vs) = match_ordering (by_key w v) (w ∷ v ∷ vs) (greater w v ∷ vs) (v ∷ put w vs)

-- the table of some writes
unfoldable pub table : List Write → List Write
table [] = []
table (w ∷ ws) = put w (table ws)

-- a write of the table has the key of this one, and isn't less
pub record IsCovered (t : List Write) (w : Write) : Type 0 where
  pub by : Write
  pub there : Contains t by
  pub same_key : by_key w by ≡ Equal
  pub not_less : is_gt (by_age w by) ≡ false

-- what the table of some writes is: its keys rise, so none is there twice; each of its writes is one of them; and of
-- each key it has the greatest
pub record IsTableOf (ws t : List Write) : Type 0 where
  pub rising : IsStrictlySortedBy by_key t
  pub among : All (Contains ws) t
  pub greatest : All (IsCovered t) ws

-- two lists have the same members
pub record HaveSameMembers (xs ys : List Write) : Type 0 where
  pub there : All (Contains ys) xs
  pub back : All (Contains xs) ys
