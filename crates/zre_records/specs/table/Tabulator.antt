-- What the machine of `table` knows of the octets that it was fed.
use Rattle.std.specs.Prelude.{ℕ, List}
use Rattle.zre_capture.specs.Journal.{journal, settings}
use Rattle.zre_capture.specs.declared.format.Format.TheVariants.{Second}
use Rattle.zre_node.specs.Journal.{StandsFor}
use Rattle.zre_records.specs.declared.table.tabulator.Tabulator.{Tabulator}
use Rattle.zre_records.specs.replay.Headed.{Follows}
use Rattle.zre_records.specs.table.Kept.{GatheredIfAny}

-- the group
abbrev pub group_of : Tabulator → List ℕ
group_of t = t.group

-- the machine was fed these octets: it follows them, and its replica took the writes of their journal
pub record Fed (t : Tabulator) (o : List ℕ) : Type 0 where
  pub follows : Follows (λ g J n. StandsFor g J n) t.headed o
  pub gathered : GatheredIfAny (settings Second o) t.group (journal Second o) t.headed.made t.replica
