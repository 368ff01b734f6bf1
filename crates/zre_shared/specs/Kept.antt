-- How a replica keeps its table: a map from keys to writes, and the greatest count.
use Rattle.std.specs.Prelude.{◌≡◌, ℕ, All}
use Rattle.std.specs.BTreeMap as tree
use Rattle.std.specs.Cmp.Lexicographic.{slice_cmp}
use Rattle.std.specs.Map.{values_of}
use Rattle.std.specs.Ordering.{nat_cmp}
use Rattle.std.specs.declared.alloc.Global.{Global}
use Rattle.std.specs.declared.cmp.Ordering.{Ordering}
use Rattle.std.specs.declared.vec.Vec.{Vec}
use Rattle.zre_values.specs.PlainId.{IsPeerId}
use Rattle.zre_values.specs.declared.peer_id.PeerId.{PeerId}
use Rattle.zre_shared.specs.Replicas.{greatest_count}
use Rattle.zre_shared.specs.Writes.{IsWrite}
use Rattle.zre_shared.specs.declared.write.Write.{Write}

abbrev pub Name : Type 0
Name = Vec ℕ Global

abbrev pub Map : Type 0
Map = tree.BTreeMap Name Write

abbrev pub by_name : Name → Name → Ordering
by_name x y = slice_cmp nat_cmp x.items y.items

-- a write stands at its own key, and is within the limits
pub record IsAtKey (e : Name × Write) : Type 0 where
  pub key : e.0.items ≡ e.1.key
  pub fits : IsWrite e.1

pub record IsKept (map : Map) (greatest : ℕ) (id : PeerId) : Type 0 where
  pub ordered : tree.IsOrdered by_name map
  pub entries : All IsAtKey map.entries
  pub greatest_is : greatest ≡ greatest_count (values_of map.entries)
  pub id_fits : IsPeerId id
