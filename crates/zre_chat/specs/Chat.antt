-- What a chat comes to.
use Rattle.std.specs.Prelude.{◌≡◌, ◌≢◌, ◌⊎◌, ℕ, ◌≤◌, ◌<◌, Bool, true, false, List, length, Option}
use mathlib.Core.List.{IsPrefix}
use Rattle.std.specs.List.{list_any}
use Rattle.std.specs.Io.KnownBytes.{IsAtEnd}
use Rattle.zre_outside.specs.declared.entry.Command.{Command}
use Rattle.zre_outside.specs.declared.start.Start.{Start}
use Rattle.zre_outside.specs.Causes.{Rose}
use Rattle.zre_outside.specs.Told.{MovesOn}
use Rattle.zre_values.specs.declared.settings.Settings.{Settings as Config}
use Rattle.zre_journal.specs.Events.{chronicle}
use Rattle.zre_journal.specs.Happens.{has_stopped}
use Rattle.zre_commands.specs.declared.pump.status.Status.{Status}
use Rattle.zre_commands.specs.declared.pump.status.Status.TheVariants.{Done, ReadFault}
use Rattle.zre_console.specs.lines.Orders.{is_quit, typed, orders}
use Rattle.zre_console.specs.reader.Putting.{IsShort}
use Rattle.zre_console.specs.reader.Reading.{IsReadOn, BreaksOff}
use Rattle.zre_console.specs.Lived.{Seen, HasCause, Lived, Wrote, Captured}

-- what each status needs: a count that rose, or as many octets or turns as the limit and more due
abbrev pub IsCaused : Status → (limit : ℕ) (octets : List ℕ) (turns : ℕ) (stopped : Bool) → Seen → Seen → Type 0
IsCaused status limit octets turns stopped s t = HasCause status
    (Rose s.read_faults t.read_faults × (length octets < limit) × IsReadOn octets)
    (((length octets ≡ limit) × IsReadOn octets) ⊎ ((turns ≡ limit) × (stopped ≡ false))) ⊥ s t

-- why no more of the input was read: it was at its end within the limit, a line is a quit, or the world stopped the
-- node first, before as many octets as the limit were taken or before all commands were handed in
abbrev pub HasEnded : (limit : ℕ) (octets : List ℕ) (handed : List Command) (left : Option (List ℕ)) → Type 0
HasEnded limit octets handed left = (IsAtEnd left × (length octets < limit))
    ⊎ ((list_any is_quit (typed octets) ≡ true)
    ⊎ ((list_any is_quit handed ≡ false) × ((length octets < limit) ⊎ IsShort handed (typed octets))))

-- the commands that were handed in begin the orders of the octets that were taken, before their quit, but for a quit at
-- their end; a last line without its line feed is an order only where the input was at its end within the limit and no
-- read failed; where all went well they begin the orders as they stand, and with a quit they are all of them
pub record Ordered (limit : ℕ) (octets : List ℕ) (handed : List Command) (left : Option (List ℕ)) (status : Status)
    : Type 0 where
  pub in_order : BreaksOff ((status ≢ ReadFault) × IsAtEnd left × (length octets < limit)) handed octets
  pub are_front : status ≡ Done → IsPrefix handed (orders octets)
  pub all_handed : status ≡ Done → list_any is_quit handed ≡ true → handed ≡ orders octets
  pub ended : status ≡ Done → HasEnded limit octets handed left

-- a chat of a node with settings g, which goes on the network by start and keeps a capture under a name
pub record IsChat (g : Config) (start : Start) (name : Option (List ℕ)) (limit : ℕ) (s t : Seen) (status : Status)
    : Type 0 where
  -- what was taken of the input
  pub octets : List ℕ
  pub are_taken : MovesOn s.left t.left s.taken t.taken octets
  pub within : length octets ≤ limit
  pub lived : Lived g start limit s t status
  pub wrote : Wrote g lived.entries s t status
  pub captured : Captured g name lived.entries s t status
  pub ordered : Ordered limit octets lived.handed t.left status
  -- the status has its cause
  pub caused : IsCaused status limit octets lived.turns (has_stopped (chronicle g lived.entries)) s t
