use Rattle.std.proofs.Common.{◌≡◌, List, take}
use Rattle.zre_values.specs.declared.settings.Settings.{Settings as Config}
use Rattle.zre_journal.specs.Chronicle.{Mark, in_turn}
use Rattle.zre_journal.specs.Pushes.{push}
use Rattle.zre_node.specs.Stands.{Holds, Did, AreKnown}
use Rattle.zre_node.proofs.tables.Tables.push_all.Given as goal

-- it was put on those so far, and is as it was
abbrev pub invariant-loop-link : goal.invariant-loop-link
invariant-loop-link l = record {
  lent : l.body ≡ l.fn.body;
  did : (g : Config) (K : List Mark) → Holds g K l.fn.self → AreKnown K l.links → Did g (in_turn (λ k J. push g k l.fn.body J) (take l.link-index l.links) K) K l.self l.fn.out l.out;
}
