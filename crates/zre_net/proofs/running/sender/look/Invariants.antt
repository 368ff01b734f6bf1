use Rattle.std.proofs.Common.{List, take}
use Rattle.zre_outside.specs.declared.entry.Entry.{Entry}
use Rattle.zre_values.specs.declared.settings.Settings.{Settings as Config}
use Rattle.zre_journal.specs.Events.{chronicle}
use Rattle.zre_node.specs.Journal.{StandsFor}
use Rattle.zre_net.proofs.LooksAtLinks.{Progress}
use Rattle.zre_net.proofs.running.sender.look.Given as goal

abbrev pub invariant-loop-link : goal.invariant-loop-link
invariant-loop-link l = (g : Config) (J : List Entry) → StandsFor g J l.node → Progress g (chronicle g J) (take l.link-index l.link-items) l.fn.lines l.lines
