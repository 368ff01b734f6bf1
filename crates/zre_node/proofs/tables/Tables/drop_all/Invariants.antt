use Rattle.std.proofs.Common.{List, map, take}
use Rattle.zre_values.specs.declared.settings.Settings.{Settings as Config}
use Rattle.zre_journal.specs.Chronicle.{Mark, ClosesAtStop}
use Rattle.zre_node.specs.Stands.{Holds, Did, RunNone}
use Rattle.zre_node.proofs.tables.Tables.drop_all.Given as goal

-- those so far are closed
abbrev pub invariant-loop-conn : goal.invariant-loop-conn
invariant-loop-conn l = (g : Config) (H : List Mark) → Holds g H l.fn.self → RunNone H → Did g (map (λ c. ClosesAtStop c) (take l.conn-index l.conns)) H l.self l.fn.out l.out
