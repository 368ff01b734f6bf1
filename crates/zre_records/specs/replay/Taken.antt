-- What taking entries does to a node and to the text.
use Rattle.std.specs.Prelude.{◌≡◌, ℕ, List, ◌++◌}
use Rattle.zre_values.specs.declared.settings.Settings.{Settings as Config}
use Rattle.zre_journal.specs.Events.{events}
use Rattle.zre_node.specs.declared.node.Node.{Node}
use Rattle.zre_node.specs.Journal.{StandsFor}
use Rattle.zre_outside.specs.declared.entry.Entry.{Entry}
use Rattle.zre_peer.specs.declared.event.Event.{Event}
use Rattle.zre_peer.specs.Lines.{lines}

-- entries were taken after a journal: the lines of what they tell were appended
pub record Took (g : Config) (J es : List Entry) (node : Node) (out out' : List ℕ) : Type 0 where
  pub stands : StandsFor g (J ++ es) node
  pub told : List Event
  pub more : events g (J ++ es) ≡ events g J ++ told
  pub appended : out' ≡ out ++ lines told
