-- What a clause says of a pass, and of the pipes that it belongs to.
use Rattle.std.specs.Prelude.{◌≡◌, ℕ, ◌+◌, ◌-◌, ◌^◌, List, [], ◌∷◌, ◌++◌, map, min, All, Option, Some, None, length}
use Rattle.std.specs.Prelude.{vec_len, vec_capacity}
use Rattle.crossbeam_queue.specs.Passes as queue
use Rattle.crossbeam_channel.specs.Claims as channel
use Rattle.crossbeam_channel.specs.Ends.{sends_on}
use Rattle.zre_actor.specs.declared.views.Placed.{Placed}
use Rattle.zre_actor.specs.declared.views.CommandView.{CommandView}
use Rattle.zre_actor.specs.declared.passes.Pipes.{Pipes}
use Rattle.zre_actor.specs.declared.passes.CallerPass.{CallerPass}
use Rattle.zre_actor.specs.declared.passes.CallerPasses.{CallerPasses}
use Rattle.zre_actor.specs.declared.passes.ActorPass.{ActorPass}
use Rattle.zre_actor.specs.declared.passes.TakerPass.{TakerPass}
use Rattle.zre_outside.specs.declared.entry.Command.{Command}
use Rattle.zre_peer.specs.declared.event.Event.{Event}
use Rattle.zre_actor.specs.declared.ending.Ending.{Ending}
use Rattle.zre_actor.specs.declared.told.Told.{Told}
use Rattle.zre_actor.specs.declared.told.Told.TheVariants as told
use Rattle.zre_actor.specs.Commands.{head_or, live}

abbrev pub IsCallerOf : Pipes → CallerPass → Type 0
IsCallerOf pipes p = queue.IsPassOf pipes.commands p.commands

abbrev pub caller : CallerPass → CommandView
caller p = queue.view p.commands

-- under which number it puts
abbrev pub number : CallerPass → ℕ
number p = head_or (caller p).own

-- the numbers that it absorbed
abbrev pub ended : CallerPass → List ℕ
ended p = (caller p).ended

-- what was put under these numbers
abbrev pub put_by : CallerPass → List Placed
put_by p = (caller p).put

-- a count of finds rose by one, or stands at its last value
abbrev pub Raised : ℕ → ℕ → Type 0
Raised old new = new ≡ min (old + 1) (2 ^ 64 - 1)

abbrev pub fresh_of : CallerPasses → List CallerPass
fresh_of c = c.fresh.items

abbrev pub given_of : CallerPasses → List CallerPass
given_of c = c.given.items

abbrev pub room_of : CallerPasses → ℕ
room_of c = vec_capacity c.given - vec_len c.given

abbrev pub AreCallersOf : Pipes → List CallerPass → Type 0
AreCallersOf pipes ps = All (IsCallerOf pipes) ps

abbrev pub numbers_of : List CallerPass → List ℕ
numbers_of ps = map number ps

abbrev pub IsActorOf : Pipes → ActorPass → Type 0
IsActorOf pipes p = queue.IsPassOf pipes.commands p.commands × channel.IsSeatAt (sends_on pipes.events_in) p.events

abbrev pub IsTakerOf : Pipes → TakerPass → Type 0
IsTakerOf pipes p = channel.IsSeatAt (sends_on pipes.events_in) p.events

abbrev pub actor : ActorPass → CommandView
actor p = queue.view p.commands

-- what the actor popped
abbrev pub popped_by : ActorPass → List Placed
popped_by p = (actor p).popped

-- the numbers that no caller has
abbrev pub unused_by : ActorPass → List ℕ
unused_by p = (actor p).unused

-- what the actor raised, and how it ended
abbrev pub raised_by : ActorPass → List Event
raised_by p = (channel.view p.events).raised

abbrev pub ending_of : ActorPass → Option Ending
ending_of p = (channel.view p.events).ended_by

-- what was taken, and the Last
abbrev pub taken_by : TakerPass → List Event
taken_by p = (channel.view p.events).taken

abbrev pub last_of : TakerPass → Option Ending
last_of p = (channel.view p.events).last

-- an event is added to what was taken, and Last fixes the last
abbrev pub IsTold : TakerPass → Told → TakerPass → Type 0
IsTold old (told.Event e) new = (taken_by new ≡ taken_by old ++ e ∷ []) × (last_of new ≡ last_of old)
IsTold old (told.Last x) new = (taken_by new ≡ taken_by old) × (last_of new ≡ Some x)

-- a caller's own number and those that it absorbed
abbrev pub live_of : CallerPass → List ℕ
live_of p = live (caller p)

-- what was put with these passes
abbrev pub puts_of : List CallerPass → List Placed
puts_of [] = []
puts_of (p ∷ ps) = put_by p ++ puts_of ps

-- how many numbers these passes have
abbrev pub how_many : List CallerPass → ℕ
how_many [] = 0
how_many (p ∷ ps) = length (live_of p) + how_many ps

-- all sixteen numbers are back
abbrev pub AllBack : ActorPass → List CallerPass → Type 0
AllBack a ps = length (unused_by a) + how_many ps ≡ 16

-- a pop adds a command to what the actor popped, or its finds of an empty pipe rise
abbrev pub IsPopped : ActorPass → Option Command → ActorPass → Type 0
IsPopped old None new = (popped_by new ≡ popped_by old) × Raised old.empties new.empties
IsPopped old (Some c) new =
    ((e : Placed) × (e.command ≡ c) × (popped_by new ≡ popped_by old ++ e ∷ [])) × (new.empties ≡ old.empties)

-- nothing was put with it, and it absorbed nothing
abbrev pub IsNew : CallerPass → Type 0
IsNew p = (ended p ≡ []) × (put_by p ≡ []) × (p.fulls ≡ 0)
