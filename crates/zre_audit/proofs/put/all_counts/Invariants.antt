use Rattle.std.proofs.Common.{◌≡◌, List, take, map}
use Rattle.zre_outside.specs.declared.entry.Entry.{Entry}
use Rattle.zre_values.specs.declared.settings.Settings.{Settings as Config}
use Rattle.zre_node.specs.Journal.{StandsFor}
use Rattle.zre_audit.specs.Kept.{count_on}
use Rattle.zre_audit.proofs.put.all_counts.Given as goal

abbrev pub invariant-loop-link : goal.invariant-loop-link
invariant-loop-link l = (g : Config) (J : List Entry) → StandsFor g J l.node → l.counts ≡ map (count_on g J) (take l.link-index l.link-items)
