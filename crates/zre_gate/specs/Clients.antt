-- What is seen of a client, and what one was read and put for.
use Rattle.std.specs.Prelude.{ℕ, ◌≤◌, Bool, true, false, List, [], map, flat_map, length, Option}
use Rattle.zre_outside.specs.declared.entry.Command.{Command}
use Rattle.zre_outside.specs.Causes.{Rose}
use Rattle.zre_outside.specs.Refusals.{Refusals}
use Rattle.zre_outside.specs.Told.{MovesOn}
use Rattle.zre_actor.specs.declared.views.Placed.{Placed}
use Rattle.zre_actor.specs.Commands.{placed}
use Rattle.zre_console.specs.declared.reader.ending.InputEnd.{InputEnd}
use Rattle.zre_console.specs.declared.reader.ending.InputEnd.TheVariants as end
use Rattle.zre_console.specs.reader.Reading.{LinesOutcome, EndsByRefusal}
use Rattle.zre_commands.specs.declared.pump.status.Status.{Status}
use Rattle.zre_commands.specs.declared.pump.status.Status.TheVariants.{Done}
use Rattle.zre_console.specs.Statuses.{of_read}

-- what a client tells that is left and that was taken, how often it failed, and the reads that it refused
pub record SeenClient : Type 0 where
  pub left : Option (List ℕ)
  pub taken : Option (List ℕ)
  pub faults : ℕ
  pub refused : Option Refusals

abbrev pub seen_client : {C : Type 0} (left taken : C → Option (List ℕ)) (faults : C → ℕ)
    (refused : C → Option Refusals) → C → SeenClient
seen_client left taken faults refused c =
    record { left = left c; taken = taken c; faults = faults c; refused = refused c }

-- a client that was waited for: under which number its commands were put, what it told before and after, what was
-- taken of it and put, and why no more was
pub record Served : Type 0 where
  pub number : ℕ
  pub before : SeenClient
  pub after : SeenClient
  pub octets : List ℕ
  pub commands : List Command
  pub end : InputEnd

pub record IsServed (limit : ℕ) (x : Served) : Type 0 where
  pub moved : MovesOn x.before.left x.after.left x.before.taken x.after.taken x.octets
  pub within : length x.octets ≤ limit
  pub later : x.before.faults ≤ x.after.faults
  pub outcome : LinesOutcome x.end limit x.commands x.octets x.after.left (Rose x.before.faults x.after.faults)
  pub refused : EndsByRefusal x.end x.before.refused x.after.refused

-- what was put for it
abbrev pub put_for : Served → List Placed
put_for x = map (placed x.number []) x.commands

abbrev pub put_for_all : List Served → List Placed
put_for_all xs = flat_map put_for xs

abbrev pub after_of : Served → SeenClient
after_of x = x.after

-- it ended because the gate was over
abbrev pub is_over : InputEnd → Bool
is_over end.Over = true
is_over e = false

-- what that comes to: a client that failed ends alone
abbrev pub of_client : InputEnd → Status
of_client end.ReadFault = Done
of_client e = of_read e
