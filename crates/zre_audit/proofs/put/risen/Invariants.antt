use Rattle.std.proofs.Common.{◌≡◌, List, take}
use Rattle.zre_outside.specs.declared.entry.Entry.{Entry}
use Rattle.zre_values.specs.declared.settings.Settings.{Settings as Config}
use Rattle.zre_node.specs.Asked.{sent_after}
use Rattle.zre_node.specs.Journal.{StandsFor}
use Rattle.zre_audit.specs.Kept.{risen}
use Rattle.zre_audit.proofs.put.risen.Given as goal

abbrev pub invariant-loop-one : goal.invariant-loop-one
invariant-loop-one l = (g : Config) (J : List Entry) → StandsFor g J l.node → l.links ≡ risen (sent_after g J) (take l.one-index l.before)
