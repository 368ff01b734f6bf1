-- What a status says where nothing is read: of words that are no command, and of a text that the words alone make.
use Rattle.std.specs.Prelude.{ℕ, List, codes, Option}
use Rattle.std.specs.Io.KnownBytes.{Appends}
use Rattle.zre_outside.specs.Told.{AppendsFront}
use Rattle.zre_commands.specs.declared.pump.status.Status.{Status}
use Rattle.zre_commands.specs.declared.pump.status.Status.TheVariants.{Done, Usage, BadInput, ReadFault, WriteFault}
use Rattle.zre_commands.specs.declared.pump.status.Status.TheVariants.{WorldFault, NoThread, TooLong, OutOfMemory}
use Rattle.zre_commands.specs.declared.pump.status.Status.TheVariants.{DeskFault}

abbrev pub usage_line : List ℕ
usage_line = codes "USAGE\n"

-- the line was written, or the sink failed or memory ran out and a front of it was
abbrev pub UsageOutcome : Status → (written written' : Option (List ℕ)) (write : Type 0) → Type 0
UsageOutcome Usage written written' write = Appends written written' usage_line
UsageOutcome WriteFault written written' write = write × AppendsFront written written' usage_line
UsageOutcome OutOfMemory written written' write = AppendsFront written written' usage_line
UsageOutcome Done written written' write = ⊥
UsageOutcome BadInput written written' write = ⊥
UsageOutcome ReadFault written written' write = ⊥
UsageOutcome WorldFault written written' write = ⊥
UsageOutcome NoThread written written' write = ⊥
UsageOutcome TooLong written written' write = ⊥
UsageOutcome DeskFault written written' write = ⊥

-- a text was written, or the sink failed or memory ran out and a front of it was
abbrev pub WritesText : Status → (text : List ℕ) → (written written' : Option (List ℕ)) (write : Type 0) → Type 0
WritesText Done text written written' write = Appends written written' text
WritesText WriteFault text written written' write = write × AppendsFront written written' text
WritesText OutOfMemory text written written' write = AppendsFront written written' text
WritesText Usage text written written' write = ⊥
WritesText BadInput text written written' write = ⊥
WritesText ReadFault text written written' write = ⊥
WritesText WorldFault text written written' write = ⊥
WritesText NoThread text written written' write = ⊥
WritesText TooLong text written written' write = ⊥
WritesText DeskFault text written written' write = ⊥
