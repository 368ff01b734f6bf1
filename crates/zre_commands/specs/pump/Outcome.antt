-- What a status says of a command that reads its input.
use Rattle.std.specs.Prelude.{◌≡◌, ◌≢◌, ℕ, ◌<◌, ◌≤◌, true, false, List, ◌⊎◌, length, Option}
use Rattle.std.specs.Io.KnownBytes.{Appends, IsAtEnd}
use Rattle.zre_outside.specs.Refusals.{Refusals, RefusesNone, RefusesLast}
use Rattle.zre_outside.specs.Told.{MovesOn, AppendsFront}
use Rattle.zre_commands.specs.pump.Meaning.{Meaning, whole_text}
use Rattle.zre_commands.specs.declared.pump.status.Status.{Status}
use Rattle.zre_commands.specs.declared.pump.status.Status.TheVariants.{Done, Usage, BadInput, ReadFault, WriteFault}
use Rattle.zre_commands.specs.declared.pump.status.Status.TheVariants.{WorldFault, NoThread, TooLong, OutOfMemory}
use Rattle.zre_commands.specs.declared.pump.status.Status.TheVariants.{DeskFault}

-- the octets o were taken, and then: read and write say that the counts of faults of the source and the sink rose
abbrev pub Outcome : Status
    → (limit : ℕ) (m : Meaning) (o : List ℕ) (left written written' : Option (List ℕ)) (read write : Type 0) → Type 0
-- the input was read to its end within the limit and isn't refused; all its text was written
Outcome Done limit m o left written written' read write =
    (m.is_bad o ≡ false) × IsAtEnd left × (length o < limit) × Appends written written' (whole_text m o)
-- the input is refused, at its end or however it goes on; its text and the last line were written
Outcome BadInput limit m o left written written' read write =
    (m.is_bad o ≡ true) × ((m.is_stopped o ≡ true) ⊎ (IsAtEnd left × (length o < limit)))
    × Appends written written' (whole_text m o)
-- the source failed where a read was due; the text of what was taken, fewer octets than the limit, was written
Outcome ReadFault limit m o left written written' read write =
    read × (m.is_stopped o ≡ false) × (length o < limit) × Appends written written' (m.text o)
-- the sink failed; a front of the text was written
Outcome WriteFault limit m o left written written' read write = write × AppendsFront written written' (whole_text m o)
-- as many octets as the limit were taken and a read was due; their text was written
Outcome TooLong limit m o left written written' read write =
    (length o ≡ limit) × (m.is_stopped o ≡ false) × Appends written written' (m.text o)
-- a front of the text was written
Outcome OutOfMemory limit m o left written written' read write = AppendsFront written written' (whole_text m o)
Outcome Usage limit m o left written written' read write = ⊥
Outcome WorldFault limit m o left written written' read write = ⊥
Outcome NoThread limit m o left written written' read write = ⊥
Outcome DeskFault limit m o left written written' read write = ⊥

-- some octets were taken from the source, no more than the limit, and the status says how it ended
pub record Pumped (status : Status) (limit : ℕ) (m : Meaning)
    (left left' taken taken' written written' : Option (List ℕ)) (read write : Type 0) : Type 0 where
  pub octets : List ℕ
  pub moved : MovesOn left left' taken taken' octets
  pub within : length octets ≤ limit
  pub outcome : Outcome status limit m octets left' written written' read write

-- where the source tells the reads that it refused: with ReadFault the last read was refused and no other, and with any
-- other status none
abbrev pub IsByRefusal : Status → (refused refused' : Option Refusals) → Type 0
IsByRefusal status refused refused' =
    (status ≡ ReadFault → RefusesLast refused refused') × (status ≢ ReadFault → RefusesNone refused refused')
