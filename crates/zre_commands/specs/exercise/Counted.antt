-- A node that went through a journal, with what was counted.
use Rattle.std.specs.Prelude.{◌≡◌, List, ◌++◌, length}
use Rattle.zre_values.specs.declared.settings.Settings.{Settings as Config}
use Rattle.zre_journal.specs.Events.{events}
use Rattle.zre_node.specs.Journal.{StandsFor}
use Rattle.zre_outside.specs.declared.entry.Entry.{Entry}
use Rattle.zre_commands.specs.declared.exercise.run.CountingNode.{CountingNode}
use Rattle.zre_commands.specs.exercise.Counts.{tally}

-- the node stands for the journal, and its entries and events are counted
pub record Counted (g : Config) (J : List Entry) (n : CountingNode) : Type 0 where
  pub stands : StandsFor g J n.node
  pub counts : n.counts ≡ tally (length J) (events g J)

-- of these entries those that aren't left were taken, one after the other
pub record Takes (all left : List Entry) (before now : CountingNode) : Type 0 where
  pub taken : List Entry
  pub split : all ≡ taken ++ left
  pub counted : (g : Config) (J : List Entry) → Counted g J before → Counted g (J ++ taken) now
