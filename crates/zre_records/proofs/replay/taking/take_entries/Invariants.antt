use Rattle.std.proofs.Common.{◌≡◌, List, take, drop}
use Rattle.zre_outside.specs.declared.entry.Entry.{Entry}
use Rattle.zre_values.specs.declared.settings.Settings.{Settings as Config}
use Rattle.zre_node.specs.Journal.{StandsFor}
use Rattle.zre_records.specs.replay.Taken.{Took}
use Rattle.zre_records.proofs.replay.taking.take_entries.Given as goal

-- those so far were taken, and the others still stand where they stood
abbrev pub invariant-loop-entry : goal.invariant-loop-entry
invariant-loop-entry l =
    ((g : Config) (J : List Entry) → StandsFor g J l.fn.node → Took g J (take l.entry-index l.fn.entries) l.node l.fn.out l.out)
    × (drop l.entry-index l.entry-items ≡ drop l.entry-index l.fn.entries)
