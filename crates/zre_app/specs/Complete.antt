-- Where nothing fails, a command does all that it is asked for, unless memory runs out.
use Rattle.std.specs.Prelude.{◌≡◌, ◌⊎◌, ℕ, ◌<◌, false, List, length, All, Option, Some, None, ⊤}
use Rattle.std.specs.Io.KnownBytes.{Appends}
use Rattle.zre_outside.specs.Causes.{Rose}
use Rattle.zre_peer.specs.Lines.{lines}
use Rattle.zre_journal.specs.Events.{chronicle, events}
use Rattle.zre_journal.specs.Happens.{has_stopped}
use Rattle.zre_commands.specs.declared.pump.status.Status.{Status}
use Rattle.zre_commands.specs.declared.pump.status.Status.TheVariants.{Done, OutOfMemory}
use Rattle.zre_commands.specs.pump.Meaning.{whole_text}
use Rattle.zre_console.specs.Lived.{Seen}
use Rattle.zre_chat.specs.Chat.{IsChat}
use Rattle.zre_gate.specs.Clients.{SeenClient}
use Rattle.zre_gate.specs.Gate.{Client, HasServed, IsGate}
use Rattle.zre_gate.specs.declared.gate.Gate.{Gate}
use Rattle.zre_app.specs.declared.command.Command.{Command}
use Rattle.zre_app.specs.declared.command.Command.TheVariants.{Plain, Chat}
use Rattle.zre_app.specs.Does.{Work, work_of}
use Rattle.zre_app.specs.Does.Work.{Reads, Writes}
use Rattle.zre_app.specs.Streams.{Streams, streams_of}
use Rattle.zre_chat.specs.Views.{Views, Handed, seen_of}

-- the status says that all went well, and it did; or memory ran out
abbrev pub WellOrShort : Status → (all : Type 0) → Type 0
WellOrShort status all = ((status ≡ Done) × all) ⊎ (status ≡ OutOfMemory)

-- no count of faults rose
pub record NoneRose (s t : Seen) : Type 0 where
  pub read : ¬ Rose s.read_faults t.read_faults
  pub write : ¬ Rose s.write_faults t.write_faults
  pub world : ¬ Rose s.world_faults t.world_faults
  pub recorded : ¬ Rose s.record_faults t.record_faults
  pub thread : ¬ Rose s.refusals t.refusals

-- A command that reads: where the source tells what it holds, that isn't refused and is shorter than the limit, and
-- neither source nor sink failed, its whole text is written. A command that writes what its words say needs no more
-- than the sink.
abbrev pub CompletesWork : Work → (limit : ℕ) → Status → Streams → Streams → Type 0
CompletesWork (Reads m) limit status s t =
    (o : List ℕ) → s.left ≡ Some o → m.is_bad o ≡ false → length o < limit
    → ¬ Rose s.read_faults t.read_faults → ¬ Rose s.write_faults t.write_faults
    → WellOrShort status (Appends s.written t.written (whole_text m o))
CompletesWork (Writes text) limit status s t =
    ¬ Rose s.write_faults t.write_faults → WellOrShort status (Appends s.written t.written text)

-- A chat refuses no input: where nothing failed, fewer octets than the limit were taken, and fewer turns than the limit
-- were answered, the lines of all events of the journal that its world gave are written.
abbrev pub Completes : Option Command → (limit : ℕ) → Status → Seen → Seen → Type 0
Completes None limit status s t = ⊤
Completes (Some (Plain p)) limit status s t = CompletesWork (work_of p) limit status (streams_of s) (streams_of t)
Completes (Some (Chat c)) limit status s t =
    (chat : IsChat c.config c.start c.capture limit s t status) → NoneRose s t
    → length chat.octets < limit → chat.lived.turns < limit
    → WellOrShort status (Appends s.written t.written (lines (events c.config chat.lived.entries)))

-- the same of what is handed in, as it was before and after
abbrev pub CompletesAll : {I W O R P : Type 0} → Views I W O R P → Option Command → (limit : ℕ) → Status
    → Handed I W O R P → Handed I W O R P → Type 0
CompletesAll v c limit status h h' = Completes c limit status (seen_of v h) (seen_of v h')

-- fewer octets of it than the limit were taken
abbrev pub IsBelow : (limit : ℕ) → Client → Type 0
IsBelow limit c = length c.octets < limit

-- A gate refuses no client's lines: where nothing but clients failed, fewer octets than the limit were taken of each,
-- and fewer turns than the limit were answered, the lines of all events of the journal that its world gave are written.
abbrev pub CompletesGate : Option Gate → (limit : ℕ) → Status → Seen → Seen → (desk : Type 0) → Type 0
CompletesGate None limit status s t desk = ⊤
CompletesGate (Some g) limit status s t desk =
    (before after : List SeenClient)
    (gate : IsGate g.config g.start g.capture limit g.clients s t desk before after status)
    (served : HasServed limit gate.lived.handed gate.lived.turns
    (has_stopped (chronicle g.config gate.lived.entries)) s t desk before after status)
    → NoneRose s t → ¬ desk → All (IsBelow limit) served.clients → gate.lived.turns < limit
    → WellOrShort status (Appends s.written t.written (lines (events g.config gate.lived.entries)))
