-- What is put of what is read.
use Rattle.std.specs.Prelude.{◌≡◌, ℕ, ◌<◌, ◌≤◌, true, false, List, [], ◌++◌, ◌⊎◌, length, Option}
use mathlib.Core.List.{IsPrefix}
use Rattle.std.specs.List.{list_any}
use Rattle.std.specs.Io.KnownBytes.{IsAtEnd}
use Rattle.zre_outside.specs.declared.entry.Command.{Command}
use Rattle.zre_outside.specs.Refusals.{Refusals, RefusesNone, RefusesLast}
use Rattle.zre_outside.specs.Told.{MovesOn}
use Rattle.zre_actor.specs.declared.passes.CallerPass.{CallerPass}
use Rattle.zre_console.specs.lines.Orders.{is_quit, typed, orders, asked, Begins}
use Rattle.zre_console.specs.declared.reader.ending.InputEnd.{InputEnd}
use Rattle.zre_console.specs.declared.reader.ending.InputEnd.TheVariants.{Quit, AtEnd, Over, ReadFault, TooLong}
use Rattle.zre_console.specs.declared.reader.ending.InputEnd.TheVariants.{OutOfMemory}
use Rattle.zre_console.specs.reader.Putting.{Puts, IsClose, IsShort}

-- these begin the orders of a text, but for a quit that may stand after them; a last line without its line feed counts
-- only where the text has ended
pub record BreaksOff (ended : Type 0) (commands : List Command) (o : List ℕ) : Type 0 where
  pub front : List Command
  pub tail : List Command
  pub parts : commands ≡ front ++ tail
  pub begins : Begins front o
  pub are_whole : IsPrefix front (typed o) ⊎ ended
  pub closes : IsClose tail

-- these are the commands of the whole lines of a text, but for a quit that may stand after them
pub record CutsOff (commands : List Command) (o : List ℕ) : Type 0 where
  pub tail : List Command
  pub parts : commands ≡ typed o ++ tail
  pub closes : IsClose tail

-- no line so far is a quit, after which nothing is read
abbrev pub IsReadOn : List ℕ → Type 0
IsReadOn o = list_any is_quit (typed o) ≡ false

-- the octets o were taken and these commands put, and then: read says that the source's count of faults rose
abbrev pub Outcome : InputEnd
    → (limit : ℕ) (commands : List Command) (o : List ℕ) (left : Option (List ℕ)) (read : Type 0) → Type 0
-- a line is a quit
Outcome Quit limit commands o left read = (list_any is_quit (typed o) ≡ true) × (commands ≡ orders o)
-- the input was read to its end within the limit
Outcome AtEnd limit commands o left read = IsAtEnd left × (length o < limit) × (commands ≡ orders o)
-- no quit was put: nothing was read, fewer octets than the limit were taken, or not all commands were put
Outcome Over limit commands o left read =
    Begins commands o × ((o ≡ []) ⊎ ((length o < limit) ⊎ IsShort commands (typed o)))
    × (IsPrefix commands (typed o) ⊎ (IsAtEnd left × (length o < limit)))
-- the source failed where a read was due
Outcome ReadFault limit commands o left read = read × (length o < limit) × IsReadOn o × CutsOff commands o
-- as many octets as the limit were taken and a read was due
Outcome TooLong limit commands o left read = (length o ≡ limit) × IsReadOn o × CutsOff commands o
Outcome OutOfMemory limit commands o left read = BreaksOff ⊥ commands o

-- where the source tells the reads that it refused: with ReadFault the last read was refused and no other, and with any
-- other end none
abbrev pub EndsByRefusal : InputEnd → (refused refused' : Option Refusals) → Type 0
EndsByRefusal ReadFault refused refused' = RefusesLast refused refused'
EndsByRefusal Quit refused refused' = RefusesNone refused refused'
EndsByRefusal AtEnd refused refused' = RefusesNone refused refused'
EndsByRefusal Over refused refused' = RefusesNone refused refused'
EndsByRefusal TooLong refused refused' = RefusesNone refused refused'
EndsByRefusal OutOfMemory refused refused' = RefusesNone refused refused'

-- the same of the lines alone, whose quit isn't put
abbrev pub LinesOutcome : InputEnd
    → (limit : ℕ) (commands : List Command) (o : List ℕ) (left : Option (List ℕ)) (read : Type 0) → Type 0
LinesOutcome Quit limit commands o left read = (list_any is_quit (typed o) ≡ true) × (commands ≡ asked false o)
LinesOutcome AtEnd limit commands o left read = IsAtEnd left × (length o < limit) × (commands ≡ asked false o)
LinesOutcome Over limit commands o left read =
    Begins commands o × IsPrefix commands (typed o)
    × ((o ≡ []) ⊎ ((length o < limit) ⊎ IsShort commands (typed o)))
LinesOutcome ReadFault limit commands o left read = read × (length o < limit) × IsReadOn o × (commands ≡ typed o)
LinesOutcome TooLong limit commands o left read = (length o ≡ limit) × IsReadOn o × (commands ≡ typed o)
LinesOutcome OutOfMemory limit commands o left read = Begins commands o × IsPrefix commands (typed o)

-- some octets were taken from the source and some commands put with the pass, and the outcome says how they belong
-- together
pub record HasTaken (limit : ℕ) (old new : CallerPass) (left left' taken taken' : Option (List ℕ))
    (outcome_of : List Command → List ℕ → Type 0) : Type 0 where
  pub octets : List ℕ
  pub moved : MovesOn left left' taken taken' octets
  pub within : length octets ≤ limit
  pub commands : List Command
  pub puts : Puts old new commands
  pub outcome : outcome_of commands octets

-- these are the commands of lines, and no quit
abbrev pub HasReadLines : InputEnd → (limit : ℕ) (old new : CallerPass) (left left' taken taken' : Option (List ℕ))
    (read : Type 0) → Type 0
HasReadLines end limit old new left left' taken taken' read =
    HasTaken limit old new left left' taken taken'
    (λ commands octets. LinesOutcome end limit commands octets left' read)

-- and these with the quit at their end
abbrev pub HasRead : InputEnd → (limit : ℕ) (old new : CallerPass) (left left' taken taken' : Option (List ℕ))
    (read : Type 0) → Type 0
HasRead end limit old new left left' taken taken' read =
    HasTaken limit old new left left' taken taken' (λ commands octets. Outcome end limit commands octets left' read)
