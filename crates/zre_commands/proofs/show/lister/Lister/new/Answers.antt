use Rattle.std.proofs.Common.{sym}
use Rattle.zre_commands.proofs.show.ListerFedPiece.{no_fault, nothing_stopped}
use Rattle.zre_commands.proofs.show.lister.Lister.new.Goals as goal

pub returns-clause-fed : goal.returns-clause-fed
returns-clause-fed c = record { faulty = sym no_fault; reads = λ _. c.stream.ensures }

pub returns-clause-going : goal.returns-clause-going
returns-clause-going c = nothing_stopped
