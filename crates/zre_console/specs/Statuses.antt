-- How all of it ended, from how its parts ended.
use Rattle.std.specs.Prelude.{◌≡◌, ◌≢◌, ◌⊎◌, ◌≤◌, ℕ, Bool, true, false, nat_le, List, [], ◌∷◌}
use Rattle.std.specs.Prelude.{Option, Some, None, if◌then◌else◌}
use Rattle.zre_outside.specs.declared.sink.NextFault.{NextFault}
use Rattle.zre_outside.specs.declared.sink.NextFault.TheVariants as fault
use Rattle.zre_outside.specs.Refusals.{Refusals, RefusesNone, RefusesLast}
use Rattle.zre_commands.specs.declared.pump.status.Status.{Status}
use Rattle.zre_commands.specs.declared.pump.status.Status.TheVariants.{Done, ReadFault, WriteFault, WorldFault}
use Rattle.zre_commands.specs.declared.pump.status.Status.TheVariants.{NoThread, TooLong, OutOfMemory}
use Rattle.zre_commands.specs.pump.Codes.{code_of}
use Rattle.zre_actor.specs.declared.ending.Ending.{Ending}
use Rattle.zre_actor.specs.declared.ending.Ending.TheVariants as ending
use Rattle.zre_console.specs.declared.reader.ending.InputEnd.{InputEnd}
use Rattle.zre_console.specs.declared.reader.ending.InputEnd.TheVariants as end

-- OutOfMemory comes first and Done last; the others stand as their numbers
abbrev pub rank : Status → ℕ
rank OutOfMemory = 0
rank Done = 11
rank s = code_of s

-- the first of what occurred; Done where nothing did
abbrev pub least : List Status → Status
least [] = Done
least (s ∷ ss) = if nat_le (rank s) (rank (least ss)) then s else least ss

-- none of some calls was refused, or the status is that of their refusals, or one before it
abbrev pub Yields : Status → (failed : Status) → (none : Type 0) → Type 0
Yields status failed none = none ⊎ (rank status ≤ rank failed)

-- the status of a chat or a gate is the first of the refusals that occurred: each type says of an object that none of
-- its calls was refused
pub record IsFirst (status : Status) (writes records worlds starts : Type 0) : Type 0 where
  pub written : Yields status WriteFault writes
  pub recorded : Yields status WriteFault records
  pub given : Yields status WorldFault worlds
  pub started : Yields status NoThread starts

-- where the source tells the reads that it refused: none was, and the status isn't ReadFault; or the last one was and
-- no other, and the status is ReadFault unless memory ran out
abbrev pub IsReadSo : Status → (refused refused' : Option Refusals) → Type 0
IsReadSo status refused refused' =
    (RefusesNone refused refused' × (status ≢ ReadFault))
    ⊎ (RefusesLast refused refused' × ((status ≡ ReadFault) ⊎ (status ≡ OutOfMemory)))

-- ---- what each end comes to: Done where it isn't that of a fault or a limit

abbrev pub of_fault : NextFault → Status → Status
of_fault fault.Failed failed = failed
of_fault fault.OutOfMemory failed = OutOfMemory

abbrev pub of_read : InputEnd → Status
of_read end.ReadFault = ReadFault
of_read end.TooLong = TooLong
of_read end.OutOfMemory = OutOfMemory
of_read _ = Done

abbrev pub of_print : Option NextFault → Status
of_print None = Done
of_print (Some f) = of_fault f WriteFault

abbrev pub of_work : Ending → Status
of_work ending.WorldFault = WorldFault
of_work ending.RecordFault = WriteFault
of_work ending.TooLong = TooLong
of_work ending.OutOfMemory = OutOfMemory
of_work _ = Done

abbrev pub of_thread : Bool → Status
of_thread true = NoThread
of_thread false = Done
