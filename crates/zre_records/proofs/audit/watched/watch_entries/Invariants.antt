use Rattle.std.proofs.Common.{List, ◌++◌}
use Rattle.zre_outside.specs.declared.entry.Entry.{Entry}
use Rattle.zre_values.specs.declared.settings.Settings.{Settings as Config}
use Rattle.zre_audit.specs.Watching.{Watches}
use Rattle.zre_records.proofs.audit.watched.watch_entries.Given as goal

-- those so far were taken
abbrev pub invariant-loop-entry : goal.invariant-loop-entry
invariant-loop-entry l = (g : Config) (J : List Entry) → Watches g J l.fn.watch → Watches g (J ++ l.yielded) l.watch
