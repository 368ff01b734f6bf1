use Rattle.std.proofs.Common.{List, map, take}
use Rattle.zre_mailbox.specs.Talk.{Arrived, arrivals_in}
use Rattle.zre_values.specs.declared.settings.Settings.{Settings as Config}
use Rattle.zre_journal.specs.Chronicle.{Mark, in_turn}
use Rattle.zre_journal.specs.Arrivals.{at_place}
use Rattle.zre_node.specs.Stands.{Holds, Did}
use Rattle.zre_node.proofs.tables.Tables.arrive_all.Given as goal

-- what those so far bring has arrived
abbrev pub invariant-loop-item : goal.invariant-loop-item
invariant-loop-item l = (g : Config) (K : List Mark) → Holds g K l.fn.self → Did g (in_turn (at_place g l.conn) (map (λ a. Arrived a) (arrivals_in (take l.item-index l.items))) K) K l.self l.fn.out l.out
