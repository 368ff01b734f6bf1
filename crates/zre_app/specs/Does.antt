-- What a call does, by the command that its words are.
use Rattle.std.specs.Prelude.{◌≡◌, ◌≤◌, ℕ, Bool, true, false, not, is_some, List, Option, Some, None}
use Rattle.zre_outside.specs.Causes.{Rose}
use Rattle.zre_outside.specs.declared.entry.Entry.{Entry}
use Rattle.zre_capture.specs.Journal.{journal, settings}
use Rattle.zre_capture.specs.declared.format.Format.TheVariants.{First, Second}
use Rattle.zre_values.specs.declared.settings.Settings.{Settings}
use Rattle.zre_journal.specs.Events.{events}
use Rattle.zre_journal.specs.Ledger.{KeepsLedgers}
use Rattle.zre_commands.specs.declared.pump.status.Status.{Status}
use Rattle.zre_commands.specs.pump.Meaning.{Meaning}
use Rattle.zre_commands.specs.pump.Outcome.{Pumped}
use Rattle.zre_commands.specs.follow.Follow.{follow}
use Rattle.zre_commands.specs.show.Show.{show}
use Rattle.zre_records.specs.replay.Replay.{replay, told_replay}
use Rattle.zre_records.specs.upgrade.Upgrade.{upgrade}
use Rattle.zre_records.specs.table.Table.{table}
use Rattle.zre_records.specs.audit.Audit.{audit}
use Rattle.zre_records.specs.simulate.Simulate.{simulate}
use Rattle.zre_commands.specs.exercise.Exercise.{text as exercise_text}
use Rattle.zre_console.specs.Lived.{Seen}
use Rattle.zre_chat.specs.Chat.{IsChat}
use Rattle.zre_app.specs.declared.command.Command.{Command}
use Rattle.zre_app.specs.declared.command.Command.TheVariants as commands
use Rattle.zre_app.specs.declared.plain_words.Plain.{Plain}
use Rattle.zre_app.specs.declared.plain_words.Plain.TheVariants.{Follow, Show, Replay, ReplayTold, Upgrade, Table}
use Rattle.zre_app.specs.declared.plain_words.Plain.TheVariants.{Audit, Simulate, Exercise}
use Rattle.zre_app.specs.Streams.{Streams, streams, streams_of}
use Rattle.zre_chat.specs.Views.{StreamViews, Handed, Views, seen_of}
use Rattle.zre_app.specs.Usage.{UsageOutcome, WritesText}

-- what is to be done without a network
pub data Work : Type 0 where
  -- to read, and to make this of the input
  Reads : Meaning → Work
  -- to write a text, which the words alone make
  Writes : List ℕ → Work

abbrev pub work_of : Plain → Work
work_of (Follow id) = Reads (follow id)
work_of Show = Reads show
work_of (Replay g) = Reads (replay g)
work_of ReplayTold = Reads told_replay
work_of (Upgrade g) = Reads (upgrade g)
work_of (Table group) = Reads (table group)
work_of Audit = Reads audit
work_of Simulate = Reads simulate
work_of (Exercise seed peers messages) = Writes (exercise_text seed peers messages)

-- the status says of it what was taken of the source and what was written
abbrev pub DoesWork : Work → (limit : ℕ) → Status → Streams → Streams → Type 0
DoesWork (Reads m) limit status s t =
    Pumped status limit m s.left t.left s.taken t.taken s.written t.written
    (Rose s.read_faults t.read_faults) (Rose s.write_faults t.write_faults)
DoesWork (Writes text) limit status s t =
    WritesText status text s.written t.written (Rose s.write_faults t.write_faults)

-- or the words are no command, and nothing but that is written
abbrev pub DoesPlain : Option Plain → (limit : ℕ) → Status → Streams → Streams → Type 0
DoesPlain None limit status s t = UsageOutcome status s.written t.written (Rose s.write_faults t.write_faults)
DoesPlain (Some p) limit status s t = DoesWork (work_of p) limit status s t

-- what is done of all that is handed in
abbrev pub Does : Option Command → (limit : ℕ) → Status → Seen → Seen → Type 0
Does None limit status s t = DoesPlain None limit status (streams_of s) (streams_of t)
Does (Some (commands.Plain p)) limit status s t = DoesPlain (Some p) limit status (streams_of s) (streams_of t)
Does (Some (commands.Chat c)) limit status s t = IsChat c.config c.start c.capture limit s t status

-- The journals whose events a call writes, whatever octets it reads or its world gives, keep every ledger that their
-- messages are drawn from.
abbrev pub KeepsItsLedgers : Option Command → Type 0
KeepsItsLedgers (Some (commands.Plain (Replay g))) =
    (o : List ℕ) → KeepsLedgers g (journal First o) (events g (journal First o))
KeepsItsLedgers (Some (commands.Plain ReplayTold)) =
    (o : List ℕ) (s : Settings) → settings Second o ≡ Some s
    → KeepsLedgers s (journal Second o) (events s (journal Second o))
KeepsItsLedgers (Some (commands.Chat c)) =
    (entries : List Entry) → KeepsLedgers c.config entries (events c.config entries)
KeepsItsLedgers _ = Unit {0}

-- it reads nothing
abbrev pub is_writing : Work → Bool
is_writing (Reads m) = false
is_writing (Writes text) = true

abbrev pub is_plain_unread : Option Plain → Bool
is_plain_unread None = true
is_plain_unread (Some p) = is_writing (work_of p)

abbrev pub is_unread : Option Command → Bool
is_unread None = true
is_unread (Some (commands.Plain p)) = is_plain_unread (Some p)
is_unread (Some (commands.Chat c)) = false

-- it keeps no capture
abbrev pub is_unrecorded : Option Command → Bool
is_unrecorded None = true
is_unrecorded (Some (commands.Plain p)) = true
is_unrecorded (Some (commands.Chat c)) = not (is_some c.capture)

-- it is none, or another than `chat`
abbrev pub is_plain : Option Command → Bool
is_plain None = true
is_plain (Some (commands.Plain p)) = true
is_plain (Some (commands.Chat c)) = false

-- what a call came to whose words are no chat
pub record DidPlain {I O : Type 0} (v : StreamViews I O) (p : Option Plain) (limit : ℕ) (status : Status)
    (input input' : I) (out out' : O) : Type 0 where
  pub does : DoesPlain p limit status (streams v input out) (streams v input' out')
  pub reads : v.read_faults input ≤ v.read_faults input'
  pub writes : v.write_faults out ≤ v.write_faults out'
  -- what isn't read comes back as it was handed in
  pub unread : is_plain_unread p ≡ true → input' ≡ input

-- and any call, of what is handed in as it was before and after
pub record Did {I W O R P : Type 0} (v : Views I W O R P) (c : Option Command) (limit : ℕ) (status : Status)
    (h h' : Handed I W O R P) : Type 0 where
  pub does : Does c limit status (seen_of v h) (seen_of v h')
  pub reads : v.streams.read_faults h.input ≤ v.streams.read_faults h'.input
  pub writes : v.streams.write_faults h.out ≤ v.streams.write_faults h'.out
  -- what isn't used comes back as it was handed in
  pub unread : is_unread c ≡ true → h'.input ≡ h.input
  pub unrecorded : is_unrecorded c ≡ true → h'.rec ≡ h.rec
  pub world : is_plain c ≡ true → h'.world ≡ h.world
  pub spawner : is_plain c ≡ true → h'.spawner ≡ h.spawner
