-- What a gate comes to.
use Rattle.std.specs.Prelude.{◌≡◌, ◌⊎◌, ℕ, ◌≤◌, ◌<◌, Bool, true, false, if◌then◌else◌, List, [], ◌++◌, map, length}
use Rattle.std.specs.Prelude.{All, Contains, Option, Some, None, option_map}
use mathlib.Core.List.{IsPrefix}
use Rattle.std.specs.List.{list_any}
use Rattle.std.specs.Io.KnownBytes.{Appends, IsAtEnd}
use Rattle.zre_values.specs.declared.endpoint.Endpoint.{Endpoint}
use Rattle.zre_outside.specs.declared.entry.Command.{Command}
use Rattle.zre_outside.specs.declared.start.Start.{Start}
use Rattle.zre_outside.specs.Causes.{Rose}
use Rattle.zre_outside.specs.Desks.{Register}
use Rattle.zre_outside.specs.Refusals.{RefusesNone, RefusesLast}
use Rattle.zre_outside.specs.Told.{MovesOn}
use Rattle.zre_outside.specs.Worlds.{Log}
use Rattle.zre_values.specs.declared.settings.Settings.{Settings as Config}
use Rattle.zre_journal.specs.Events.{chronicle}
use Rattle.zre_journal.specs.Happens.{has_stopped}
use Rattle.zre_console.specs.lines.Orders.{is_quit, typed, asked}
use Rattle.zre_console.specs.reader.Putting.{IsClose, IsShort}
use Rattle.zre_console.specs.reader.Reading.{IsReadOn}
use Rattle.zre_commands.specs.declared.pump.status.Status.{Status}
use Rattle.zre_commands.specs.declared.pump.status.Status.TheVariants.{Done, DeskFault}
use Rattle.zre_console.specs.Lived.{Seen, seen, HasCause, Lived, Wrote, Captured}
use Rattle.zre_gate.specs.Clients.{SeenClient}
use Rattle.zre_gate.specs.declared.gate.Gate.{Gate}
use Rattle.zre_gate.specs.Interleaving.{IsInterleaving}

-- what is seen of all that a gate works with but the clients and the desk, at one moment
abbrev pub seen_without_clients : (told : Option Log) (worlds : ℕ) (written : Option (List ℕ)) (writes : ℕ)
    (kept named : Option (List ℕ)) (records refusals : ℕ) → Seen
seen_without_clients told worlds written writes kept named records refusals =
    seen None None 0 told worlds written writes kept named records refusals

-- a client: what it told before and after, the octets that were taken of it, and its commands that were handed in
pub record Client : Type 0 where
  pub before : SeenClient
  pub after : SeenClient
  pub octets : List ℕ
  pub handed : List Command

abbrev pub before_of : Client → SeenClient
before_of c = c.before

abbrev pub after_of : Client → SeenClient
after_of c = c.after

abbrev pub handed_of : Client → List Command
handed_of c = c.handed

-- the commands that were handed in begin those that the client asked for; a last line without a line feed counts only
-- where the client was found at its end, before the limit. Where the client tells the reads that it refused, none was
-- refused; or the last one was and no other, and then no such line counts
pub record IsClient (limit : ℕ) (c : Client) : Type 0 where
  pub moved : MovesOn c.before.left c.after.left c.before.taken c.after.taken c.octets
  pub within : length c.octets ≤ limit
  pub later : c.before.faults ≤ c.after.faults
  pub in_order : IsPrefix c.handed (asked false c.octets)
  pub unfinished : IsPrefix c.handed (asked true c.octets) ⊎ (IsAtEnd c.after.left × (length c.octets < limit))
  pub refused : RefusesNone c.before.refused c.after.refused
      ⊎ (RefusesLast c.before.refused c.after.refused × IsPrefix c.handed (asked true c.octets))

-- all that it asked for was handed in; such a line isn't, where it failed or as many octets as the limit were taken.
-- Unless it failed, it was read to its end or to its quit
abbrev pub IsWhole : (limit : ℕ) → Client → Type 0
IsWhole limit c =
    ((c.handed ≡ asked false c.octets)
    ⊎ ((Rose c.before.faults c.after.faults ⊎ (length c.octets ≡ limit)) × (c.handed ≡ asked true c.octets)))
    × (Rose c.before.faults c.after.faults ⊎ (IsAtEnd c.after.left ⊎ (list_any is_quit (typed c.octets) ≡ true)))

-- no read beyond the limit was due: fewer octets were taken, a line is a quit, or the gate was over before all commands
-- were handed in
abbrev pub IsFree : ℕ → Client → Type 0
IsFree limit c = (length c.octets < limit)
    ⊎ ((list_any is_quit (typed c.octets) ≡ true) ⊎ IsShort c.handed (typed c.octets))

-- as many octets as the limit were taken, and a read was due
abbrev pub IsLong : ℕ → Client → Type 0
IsLong limit c = (length c.octets ≡ limit) × IsReadOn c.octets

-- what each status needs: a count that rose, or as many octets or turns as the limit and more due
abbrev pub IsCaused : Status → (limit : ℕ) (clients : List Client) (turns : ℕ) (stopped : Bool) → Seen → Seen
    → (desk : Type 0) → Type 0
IsCaused status limit clients turns stopped s t desk = HasCause status ⊥
    (((c : Client) × Contains clients c × IsLong limit c) ⊎ ((turns ≡ limit) × (stopped ≡ false))) desk s t

-- the commands that were handed in are, but for a quit at their end, an interleaving of the clients' own; where all
-- went well and a quit stands there, all that the clients asked for was handed in
pub record Merged (limit : ℕ) (clients : List Client) (handed : List Command) (status : Status) : Type 0 where
  pub body : List Command
  pub tail : List Command
  pub parts : handed ≡ body ++ tail
  pub closes : IsClose tail
  pub interleaved : IsInterleaving (map handed_of clients) body
  pub all_handed : status ≡ Done → list_any is_quit handed ≡ true → All (IsWhole limit) clients
  pub free : status ≡ Done → All (IsFree limit) clients

-- there are such clients, so many where all went well, and the status has its cause. The rows are those of the clients
-- that the desk gave
pub record HasServed (limit : ℕ) (handed : List Command) (turns : ℕ) (stopped : Bool) (s t : Seen) (desk : Type 0)
    (before after : List SeenClient) (status : Status) : Type 0 where
  pub clients : List Client
  pub are_before : map before_of clients ≡ before
  pub are_after : map after_of clients ≡ after
  pub each : All (IsClient limit) clients
  pub merged : Merged limit clients handed status
  pub caused : IsCaused status limit clients turns stopped s t desk

-- a gate of a node with settings g, which goes on the network by start and keeps a capture under a name, for so many
-- clients; desk says that the desk's count of faults rose. What was taken of a client may be told by nothing that is
-- seen, so of the clients it says that they are there
pub record IsGate (g : Config) (start : Start) (name : Option (List ℕ)) (limit many : ℕ) (s t : Seen) (desk : Type 0)
    (before after : List SeenClient) (status : Status) : Type 0 where
  pub lived : Lived g start limit s t status
  pub wrote : Wrote g lived.entries s t status
  pub captured : Captured g name lived.entries s t status
  -- nothing is written where the desk failed
  pub unwritten : status ≡ DeskFault → Appends s.written t.written []
  pub full : status ≡ Done → length after ≡ many
  pub served : ∥ HasServed limit lived.handed lived.turns (has_stopped (chronicle g lived.entries)) s t desk
      before after status ∥₁

-- a desk was begun at a place, unless the gate ended before, and gave these clients
abbrev pub with_clients : {C : Type 0} → Bool → Endpoint → List C → Register C → Register C
with_clients begun place given r = record {
  begun = if begun then Some place else r.begun;
  given = r.given ++ given;
}

-- the same of what a gate is asked for, with the clients that the desk gave and what it tells
pub record HasGated {C : Type 0} (look : C → SeenClient) (plan : Gate) (limit : ℕ) (told told' : Option (Register C))
    (s t : Seen) (desk : Type 0) (returned : List C) (status : Status) : Type 0 where
  pub given : List C
  pub begun : Bool
  pub is_told : told' ≡ option_map (with_clients begun plan.local given) told
  pub opened : status ≡ Done → begun ≡ true
  pub gate : IsGate plan.config plan.start plan.capture limit plan.clients s t desk (map look given)
      (map look returned) status
