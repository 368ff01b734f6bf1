-- The exit status of the program.
use Rattle.std.specs.Prelude.{ℕ}
use Rattle.zre_commands.specs.declared.pump.status.Status.{Status}
use Rattle.zre_commands.specs.declared.pump.status.Status.TheVariants.{Done, Usage, BadInput, ReadFault, WriteFault}
use Rattle.zre_commands.specs.declared.pump.status.Status.TheVariants.{WorldFault, NoThread, TooLong, OutOfMemory}
use Rattle.zre_commands.specs.declared.pump.status.Status.TheVariants.{DeskFault}

-- the number of each status
abbrev pub code_of : Status → ℕ
code_of Done = 0
code_of Usage = 2
code_of BadInput = 3
code_of ReadFault = 4
code_of WriteFault = 5
code_of WorldFault = 6
code_of NoThread = 7
code_of TooLong = 8
code_of OutOfMemory = 9
code_of DeskFault = 10
