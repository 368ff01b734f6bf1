use Rattle.std.proofs.Common.{List, map, take}
use Rattle.zre_values.specs.declared.settings.Settings.{Settings as Config}
use Rattle.zre_journal.specs.Chronicle.{Mark, Ends}
use Rattle.zre_node.specs.Stands.{Holds, Did, AreKnown}
use Rattle.zre_node.proofs.tables.Tables.end_all.Given as goal

-- those so far have ended
abbrev pub invariant-loop-link : goal.invariant-loop-link
invariant-loop-link l = (g : Config) (H : List Mark) → Holds g H l.fn.self → AreKnown H l.links → Did g (map (λ k. Ends k l.cause) (take l.link-index l.links)) H l.self l.fn.out l.out
