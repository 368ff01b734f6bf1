use Rattle.std.proofs.Common.{List, take}
use Rattle.zre_values.specs.declared.settings.Settings.{Settings as Config}
use Rattle.zre_journal.specs.Chronicle.{Mark, in_turn}
use Rattle.zre_node.specs.Stands.{Holds, Did}
use Rattle.zre_node.specs.Ticks.{probes, AreEntered}
use Rattle.zre_node.proofs.tables.Tables.probe_all.Given as goal

-- those so far have probed
abbrev pub invariant-loop-link : goal.invariant-loop-link
invariant-loop-link l = (g : Config) (K : List Mark) → Holds g K l.fn.self → AreEntered K l.links → Did g (in_turn (probes g) (take l.link-index l.links) K) K l.self l.fn.out l.out
