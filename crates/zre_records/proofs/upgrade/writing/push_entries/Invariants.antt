use Rattle.std.proofs.Common.{◌≡◌, List, take}
use Rattle.zre_outside.specs.declared.entry.Entry.{Entry}
use Rattle.zre_capture.specs.Journal.{last_reading}
use Rattle.zre_records.specs.upgrade.Written.{Wrote}
use Rattle.zre_records.proofs.upgrade.writing.push_entries.Given as goal

-- those so far were written
abbrev pub invariant-loop-entry : goal.invariant-loop-entry
invariant-loop-entry l = (J : List Entry) → l.fn.before ≡ last_reading 0 J → Wrote J (take l.entry-index l.entries) l.at l.fn.out l.out
