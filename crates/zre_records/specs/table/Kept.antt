-- A replica that took the writes of a journal.
use Rattle.std.specs.Prelude.{◌≡◌, ℕ, List, Option, filter_map, []}
use Rattle.zre_values.specs.declared.settings.Settings.{Settings}
use Rattle.zre_node.specs.declared.node.Node.{Node}
use Rattle.zre_node.specs.Journal.{StandsFor}
use Rattle.zre_outside.specs.declared.entry.Entry.{Entry}
use Rattle.zre_shared.specs.Replicas.{HeldWrites}
use Rattle.zre_shared.specs.Tables.{table}
use Rattle.zre_shared.specs.Writes.{write_of}
use Rattle.zre_records.specs.replay.Lives.{IfTold}
use Rattle.zre_records.specs.table.Writes.{frames}

-- it holds the table of the writes among these frames
abbrev pub Keeps : List (List ℕ) → HeldWrites → Type 0
Keeps fs held = held.writes ≡ table (filter_map write_of fs)

-- the node stands for a journal, and the replica holds the table of its writes to the group
pub record Gathered (g : Settings) (group : List ℕ) (J : List Entry) (node : Node) (held : HeldWrites) : Type 0 where
  pub stands : StandsFor g J node
  pub keeps : Keeps (frames g group J) held

-- so it is with the node of the settings that are told; before that there is none, and the replica is empty
abbrev pub GatheredIfAny : Option Settings → (group : List ℕ) → List Entry → Option Node → HeldWrites → Type 0
GatheredIfAny told group J n held = IfTold (λ s m. Gathered s group J m held) (Keeps [] held) told n
