-- A capture of format 2 that is read in pieces, and the watch of its node.
use Rattle.std.specs.Prelude.{ℕ, List, Option}
use Rattle.zre_values.specs.declared.settings.Settings.{Settings}
use Rattle.zre_audit.specs.Watching.{Watches}
use Rattle.zre_audit.specs.declared.watch.Watch.{Watch}
use Rattle.zre_outside.specs.declared.entry.Entry.{Entry}
use Rattle.zre_records.specs.declared.replay.headed.Headed.{Headed}
use Rattle.zre_records.specs.replay.Headed.{Follows}
use Rattle.zre_records.specs.replay.Lives.{Made}

-- the watch of the settings that are told stands for this journal; there is none before they are
abbrev pub IsWatched : Option Settings → List Entry → Option Watch → Type 0
IsWatched told J w = Made (λ g K v. Watches g K v) told J w

-- these octets were read, and the watch took their journal
abbrev pub Watched : Headed Watch → List ℕ → Type 0
Watched h o = Follows (λ g K v. Watches g K v) h o
