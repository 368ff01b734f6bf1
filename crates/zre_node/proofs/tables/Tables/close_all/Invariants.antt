use Rattle.std.proofs.Common.{List, map, take}
use Rattle.zre_peer.specs.declared.causes.CloseWhy.TheVariants as close
use Rattle.zre_values.specs.declared.settings.Settings.{Settings as Config}
use Rattle.zre_journal.specs.Chronicle.{Mark, Closes}
use Rattle.zre_node.specs.Stands.{Holds, Did}
use Rattle.zre_node.specs.Ticks.{AreIdle}
use Rattle.zre_node.proofs.tables.Tables.close_all.Given as goal

-- those so far are closed
abbrev pub invariant-loop-conn : goal.invariant-loop-conn
invariant-loop-conn l = (g : Config) (H : List Mark) → Holds g H l.fn.self → AreIdle H l.conns → Did g (map (λ c. Closes c close.Timeout) (take l.conn-index l.conns)) H l.self l.fn.out l.out
