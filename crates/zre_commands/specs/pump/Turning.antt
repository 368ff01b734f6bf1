-- What one turn of the pump does, and what the end of the input does.
use Rattle.std.specs.Prelude.{◌≡◌, ◌≢◌, ℕ, ◌<◌, true, false, List, [], ◌++◌, ◌⊎◌, length, Option}
use Rattle.std.specs.Io.KnownBytes.{Appends, IsAtEnd, Keeps}
use Rattle.zre_outside.specs.Refusals.{Refusals, RefusesNone, RefusesLast}
use Rattle.zre_outside.specs.Told.{AppendsFront}
use Rattle.zre_commands.specs.pump.Meaning.{Meaning}
use Rattle.zre_commands.specs.declared.pump.pumping.Onward.{Onward}
use Rattle.zre_commands.specs.declared.pump.pumping.Onward.TheVariants as nexts
use Rattle.zre_commands.specs.declared.pump.status.Status.{Status}
use Rattle.zre_commands.specs.declared.pump.status.Status.TheVariants.{Done, BadInput, ReadFault}
use Rattle.zre_commands.specs.declared.pump.status.Status.TheVariants.{WriteFault, OutOfMemory}

-- the text of a piece after o was written
pub record WritesText (m : Meaning) (o piece : List ℕ) (written written' : Option (List ℕ)) : Type 0 where
  pub added : List ℕ
  pub longer : m.text (o ++ piece) ≡ m.text o ++ added
  pub appended : Appends written written' added

-- a front of it was
pub record WritesFront (m : Meaning) (o piece : List ℕ) (written written' : Option (List ℕ)) : Type 0 where
  pub added : List ℕ
  pub longer : m.text (o ++ piece) ≡ m.text o ++ added
  pub appended : AppendsFront written written' added

-- the sink refused, or there was no memory: a command ends by it with this status, where only a front was written
abbrev pub Refuses : Status → (write front : Type 0) → Type 0
Refuses WriteFault write front = write × front
Refuses OutOfMemory write front = front
Refuses _ write front = ⊥

-- a piece after the octets o was fed and its text written
abbrev pub Told : Onward
    → (fed : List ℕ → Type 0) (m : Meaning) (o piece : List ℕ) (written written' : Option (List ℕ)) (write : Type 0)
    → Type 0
Told nexts.Go fed m o piece written written' write =
    fed (o ++ piece) × (m.is_stopped (o ++ piece) ≡ false) × WritesText m o piece written written'
Told nexts.Finish fed m o piece written written' write =
    fed (o ++ piece) × (m.is_stopped (o ++ piece) ≡ true) × (m.is_bad (o ++ piece) ≡ true)
    × WritesText m o piece written written'
Told (nexts.Fail status) fed m o piece written written' write =
    Refuses status write (WritesFront m o piece written written')

-- one turn after the octets o, in which a piece was read: at the end of the input it is empty, and where the source
-- failed
abbrev pub Turned : Onward
    → (fed : List ℕ → Type 0) (m : Meaning) (o piece : List ℕ) (left written written' : Option (List ℕ))
    (read write : Type 0) → Type 0
Turned nexts.Go fed m o piece left written written' read write =
    (0 < length piece) × Told nexts.Go fed m o piece written written' write
Turned nexts.Finish fed m o piece left written written' read write =
    Told nexts.Finish fed m o piece written written' write
    ⊎ (fed o × (piece ≡ []) × IsAtEnd left × Keeps written written')
Turned (nexts.Fail status) fed m o piece left written written' read write =
    Told (nexts.Fail status) fed m o piece written written' write
    ⊎ ((status ≡ ReadFault) × (piece ≡ []) × read × Keeps written written')

-- a turn that ends as the source failed
abbrev pub no_read : Onward
no_read = nexts.Fail ReadFault

-- it ends so where its read was refused, and nowhere else
abbrev pub TurnRefuses : Onward → (refused refused' : Option Refusals) → Type 0
TurnRefuses next refused refused' =
    (next ≡ no_read → RefusesLast refused refused') × (next ≢ no_read → RefusesNone refused refused')

-- the end of the input o, after its text
abbrev pub Finishes : Status → (m : Meaning) (o : List ℕ) (written written' : Option (List ℕ)) (write : Type 0) → Type 0
Finishes Done m o written written' write = (m.is_bad o ≡ false) × Appends written written' (m.ending o)
Finishes BadInput m o written written' write = (m.is_bad o ≡ true) × Appends written written' (m.ending o)
Finishes status m o written written' write = Refuses status write (AppendsFront written written' (m.ending o))
