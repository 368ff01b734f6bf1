use Rattle.zre_app.proofs.RefusedReads.{memory_read}
use Rattle.zre_app.proofs.NoMemoryAtStart.{nothing_did_plain}
use Rattle.zre_app.proofs.plain_commands.plain.Goals as goal

pub returns-in-Err : goal.returns-in-Err
returns-in-Err g c = record { does = nothing_did_plain _ _ _ _ _; refused = memory_read _ }
