-- How far a chat or a gate has come before the threads are started.
use Rattle.std.specs.Prelude.{◌≡◌, ◌≢◌, ◌≤◌, ℕ, Bool, List, [], Option, Some, option_map, is_some, ⊤}
use Rattle.std.specs.Io.KnownBytes.{Keeps, Appends}
use Rattle.zre_outside.specs.declared.start.Start.{Start}
use Rattle.zre_outside.specs.Worlds.{Log, with_start}
use Rattle.zre_values.specs.declared.settings.Settings.{Settings as Config}
use Rattle.zre_capture.specs.Heads.{AreSettings}
use Rattle.zre_commands.specs.declared.pump.status.Status.{Status}
use Rattle.zre_commands.specs.declared.pump.status.Status.TheVariants.{WriteFault, WorldFault, DeskFault, OutOfMemory}
use Rattle.zre_console.specs.Lived.{Seen, started}
use Rattle.zre_console.specs.Keeping.{head_of, Begins}

-- the recorder was begun where a capture is kept, and the world was started; all else is as it was
pub record Prepared (g : Config) (start : Start) (name : Option (List ℕ)) (keep : Bool) (s u : Seen) : Type 0 where
  pub same : u ≡ record s {
    told = u.told;
    world_faults = u.world_faults;
    kept = u.kept;
    named = u.named;
    record_faults = u.record_faults;
  }
  pub told : u.told ≡ option_map (with_start start) s.told
  pub world_later : s.world_faults ≤ u.world_faults
  pub record_later : s.record_faults ≤ u.record_faults
  pub keeps : keep ≡ is_some name
  pub are_settings : AreSettings g
  pub head_kept : (file : List ℕ) → name ≡ Some file → Appends (option_map (λ _. []) s.kept) u.kept (head_of g)
  pub file_named : (file : List ℕ) → name ≡ Some file → Keeps (option_map (λ _. file) s.named) u.named

-- the same, of what was told and kept
pub record HasOpened (g : Config) (start : Start) (name : Option (List ℕ)) (begun : Bool) (told told' : Option Log)
    (kept kept' named named' : Option (List ℕ)) : Type 0 where
  pub is_told : told' ≡ option_map (with_start start) told
  pub begins : (file : List ℕ) → name ≡ Some file → Begins (head_of g) file begun kept kept' named named'

-- what ends it before its threads are started: the recorder, the world or a desk failed, or memory ran out
abbrev pub IsEarly : Status → (desks worlds records : Type 0) → Type 0
IsEarly WriteFault desks worlds records = records
IsEarly WorldFault desks worlds records = worlds
IsEarly DeskFault desks worlds records = desks
IsEarly OutOfMemory desks worlds records = ⊤
IsEarly status desks worlds records = ⊥

-- a world wasn't started, or it was and memory ran out
abbrev pub IsOutside : Start → Status → (told told' : Option Log) → (worlds : Type 0) → Type 0
IsOutside start status told told' worlds =
    (begun : Bool) × (told' ≡ option_map (started begun start) told) × IsEarly status ⊥ worlds ⊥

-- it did not come that far
pub record Unprepared (g : Config) (start : Start) (name : Option (List ℕ)) (status : Status)
    (told told' : Option Log) (kept kept' named named' : Option (List ℕ)) (desks worlds records : Type 0)
    : Type 0 where
  pub begun : Bool
  pub is_told : told' ≡ option_map (started begun start) told
  pub cause : IsEarly status desks worlds records
  pub holds : (file : List ℕ) → name ≡ Some file → status ≢ OutOfMemory → ¬ records
      → Appends (option_map (λ _. []) kept) kept' (head_of g) × Keeps (option_map (λ _. file) named) named'
