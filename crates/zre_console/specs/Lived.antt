-- What comes of a node in a thread of its own, whoever puts its commands.
use Rattle.std.specs.Prelude.{◌≡◌, ◌≢◌, ◌⊎◌, ℕ, ◌+◌, ◌≤◌, Bool, true, false, List, [], ◌++◌, length, All}
use Rattle.std.specs.Prelude.{Option, Some, option_map, ⊤}
use mathlib.Core.List.{Sublist}
use Rattle.std.specs.List.{list_any}
use Rattle.std.specs.Io.KnownBytes.{Keeps, Appends}
use Rattle.zre_outside.specs.declared.act.Act.{Act}
use Rattle.zre_outside.specs.declared.deed.Deed.{Deed}
use Rattle.zre_outside.specs.declared.entry.Entry.{Entry}
use Rattle.zre_outside.specs.declared.entry.Command.{Command}
use Rattle.zre_outside.specs.declared.start.Start.{Start}
use Rattle.zre_outside.specs.Causes.{Rose}
use Rattle.zre_outside.specs.Told.{AppendsFront}
use Rattle.zre_outside.specs.Worlds.{Log, with_start}
use Rattle.zre_peer.specs.Lines.{lines}
use Rattle.zre_values.specs.declared.settings.Settings.{Settings as Config}
use Rattle.zre_journal.specs.Endings.{is_end}
use Rattle.zre_journal.specs.Events.{chronicle, events}
use Rattle.zre_journal.specs.Happens.{has_stopped}
use Rattle.zre_capture.specs.Heads.{AreSettings}
use Rattle.zre_capture.specs.Journal.{capture}
use Rattle.zre_capture.specs.Lines.{IsEntry}
use Rattle.zre_capture.specs.declared.format.Format.TheVariants.{Second}
use Rattle.zre_actor.specs.Work.{went, AreDeeds, acts_of, done_by, AllGo}
use Rattle.zre_commands.specs.declared.pump.status.Status.{Status}
use Rattle.zre_commands.specs.declared.pump.status.Status.TheVariants.{Done, Usage, BadInput, ReadFault, WriteFault}
use Rattle.zre_commands.specs.declared.pump.status.Status.TheVariants.{WorldFault, NoThread, TooLong, OutOfMemory}
use Rattle.zre_commands.specs.declared.pump.status.Status.TheVariants.{DeskFault}

-- what is seen of all that a chat or a gate works with, at one moment; of a gate nothing of an input
pub record Seen : Type 0 where
  -- what the input tells that is left and that was taken, and how often it failed
  pub left : Option (List ℕ)
  pub taken : Option (List ℕ)
  pub read_faults : ℕ
  -- what the world tells, and how often it failed
  pub told : Option Log
  pub world_faults : ℕ
  -- what was written, and how often that failed
  pub written : Option (List ℕ)
  pub write_faults : ℕ
  -- what the recorder keeps and its name, and how often it failed
  pub kept : Option (List ℕ)
  pub named : Option (List ℕ)
  pub record_faults : ℕ
  -- how often a thread was refused
  pub refusals : ℕ

abbrev pub seen : (left taken : Option (List ℕ)) (reads : ℕ) (told : Option Log) (worlds : ℕ)
    (written : Option (List ℕ)) (writes : ℕ) (kept named : Option (List ℕ)) (records refusals : ℕ) → Seen
seen left taken reads told worlds written writes kept named records refusals = record {
  left = left;
  taken = taken;
  read_faults = reads;
  told = told;
  world_faults = worlds;
  written = written;
  write_faults = writes;
  kept = kept;
  named = named;
  record_faults = records;
  refusals = refusals;
}

-- what each status needs: a count that rose, or what is said here of the reads, of what was too long and of a desk
abbrev pub HasCause : Status → (reads long desk : Type 0) → Seen → Seen → Type 0
HasCause Done reads long desk s t = ⊤
HasCause ReadFault reads long desk s t = reads
HasCause WriteFault reads long desk s t =
    Rose s.write_faults t.write_faults ⊎ Rose s.record_faults t.record_faults
HasCause WorldFault reads long desk s t = Rose s.world_faults t.world_faults
HasCause NoThread reads long desk s t = Rose s.refusals t.refusals
HasCause TooLong reads long desk s t = long
HasCause OutOfMemory reads long desk s t = ⊤
HasCause DeskFault reads long desk s t = desk
HasCause Usage reads long desk s t = ⊥
HasCause BadInput reads long desk s t = ⊥

-- all went well, or memory didn't run out and this count of faults didn't rise
abbrev pub IsSpared : Status → (rose : Type 0) → Type 0
IsSpared status rose = (status ≡ Done) ⊎ ((status ≢ OutOfMemory) × ¬ rose)

-- the recorder, emptied and named, holds the capture of format 2 of a node with settings g and these entries, where it
-- tells what it holds
abbrev pub Holds : Config → List ℕ → List Entry → Seen → Seen → Type 0
Holds g name es s t =
    Appends (option_map (λ _. []) s.kept) t.kept (capture Second g es)
    × Keeps (option_map (λ _. name) s.named) t.named

-- a world was started, unless all ended before
abbrev pub started : Bool → Start → Log → Log
started false start l = l
started true start l = with_start start l

-- what the world of a node with settings g was told and gave, and what the node did
pub record Lived (g : Config) (start : Start) (limit : ℕ) (s t : Seen) (status : Status) : Type 0 where
  -- what the world gave: the entries that the node took, and at most one that it didn't
  pub begun : Bool
  pub turns : ℕ
  pub looks : ℕ
  pub entries : List Entry
  pub unstepped : List Entry
  pub handed : List Command
  pub deeds : List Deed
  pub is_told : t.told ≡ option_map (λ l. went (entries ++ unstepped) looks handed deeds (started begun start l)) s.told
  pub counted : length (entries ++ unstepped) + looks ≡ turns
  pub most : turns ≤ limit
  pub one_unstepped : length unstepped ≤ 1
  pub are_values : All IsEntry (entries ++ unstepped)
  -- each is taken but one whose line wasn't kept, and none was given after the one that stopped the node
  pub all_taken : IsSpared status (Rose s.record_faults t.record_faults) → unstepped ≡ []
  pub all_go : AllGo g [] (entries ++ unstepped)
  -- the acts were done in order
  pub did : List (List Entry × Act)
  pub undone : List (List Entry × Act)
  pub are_acts : acts_of g [] entries ≡ did ++ undone
  pub are_deeds : AreDeeds g did deeds
  pub all_done : status ≢ OutOfMemory → undone ≡ []
  -- the commands that were handed in are done by entries that were given, in order
  pub are_done : Sublist handed (done_by (entries ++ unstepped))
  -- where all went well, the world was started, it told the node to stop, and so the node did
  pub done : status ≡ Done → (begun ≡ true) × (list_any (λ e. is_end e.input) entries ≡ true)
      × (has_stopped (chronicle g entries) ≡ true)

-- the lines of the events of these entries were written
pub record Wrote (g : Config) (entries : List Entry) (s t : Seen) (status : Status) : Type 0 where
  pub front : AppendsFront s.written t.written (lines (events g entries))
  pub whole : IsSpared status (Rose s.write_faults t.write_faults)
      → Appends s.written t.written (lines (events g entries))

-- the capture of these entries was kept under a name, its head with the node's settings, which are values of their
-- types
pub record Captured (g : Config) (name : Option (List ℕ)) (entries : List Entry) (s t : Seen) (status : Status)
    : Type 0 where
  pub are_settings : status ≢ OutOfMemory → AreSettings g
  pub held : (file : List ℕ) → name ≡ Some file → IsSpared status (Rose s.record_faults t.record_faults)
      → Holds g file entries s t
