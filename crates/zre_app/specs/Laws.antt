-- What is proved of definitions.
use Rattle.std.specs.Prelude.{◌≡◌, ℕ, false, List, Some}
use Rattle.std.specs.Io.KnownBytes.{Appends}
use Rattle.zre_outside.specs.Causes.{Rose}
use Rattle.zre_outside.specs.declared.entry.Entry.{Entry}
use Rattle.zre_outside.specs.declared.start.Start.{Start}
use Rattle.zre_values.specs.declared.settings.Settings.{Settings as Config}
use Rattle.zre_capture.specs.Journal.{capture}
use Rattle.zre_capture.specs.Lines.{AreShort}
use Rattle.zre_capture.specs.declared.format.Format.TheVariants.{Second}
use Rattle.zre_commands.specs.pump.Meaning.{whole_text}
use Rattle.zre_commands.specs.declared.pump.status.Status.{Status}
use Rattle.zre_records.specs.replay.Replay.{told_replay}
use Rattle.zre_console.specs.Lived.{Seen, IsSpared, Holds}
use Rattle.zre_chat.specs.Chat.{IsChat}

-- the capture of a node with these settings and of these entries
abbrev pub kept_of : Config → List Entry → List ℕ
kept_of g es = capture Second g es

-- a chat kept a capture, and what it wrote is what a replay of that capture without words writes: the capture isn't
-- refused
pub record Replays (g : Config) (file : List ℕ) (s t : Seen) : Type 0 where
  pub entries : List Entry
  pub is_good : told_replay.is_bad (kept_of g entries) ≡ false
  pub is_written : Appends s.written t.written (whole_text told_replay (kept_of g entries))
  pub is_kept : Holds g file entries s t

-- it did, where all went well or neither writing nor keeping failed nor memory ran out, and no line of an entry is too
-- long to be read
abbrev pub KeptIsReplayed : Type 0
KeptIsReplayed =
    (g : Config) (start : Start) (file : List ℕ) (limit : ℕ) (s t : Seen) (status : Status)
    (chat : IsChat g start (Some file) limit s t status)
    → IsSpared status (Rose s.write_faults t.write_faults)
    → IsSpared status (Rose s.record_faults t.record_faults)
    → AreShort Second 0 chat.lived.entries → Replays g file s t
