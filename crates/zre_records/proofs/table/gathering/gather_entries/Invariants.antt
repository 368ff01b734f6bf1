use Rattle.std.proofs.Common.{List, ◌++◌}
use Rattle.zre_outside.specs.declared.entry.Entry.{Entry}
use Rattle.zre_values.specs.declared.settings.Settings.{Settings as Config}
use Rattle.zre_records.specs.table.Kept.{Gathered}
use Rattle.zre_records.proofs.table.gathering.gather_entries.Given as goal

-- those so far were gathered
abbrev pub invariant-loop-entry : goal.invariant-loop-entry
invariant-loop-entry l = (g : Config) (J : List Entry) → Gathered g l.group J l.fn.node l.fn.replica → Gathered g l.group (J ++ l.yielded) l.node l.replica
