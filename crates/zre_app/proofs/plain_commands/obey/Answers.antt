use Rattle.zre_app.proofs.RefusedReads.{nothing_read}
use Rattle.zre_app.proofs.plain_commands.obey.Goals as goal

pub returns-in-None-clause-refused : goal.returns-in-None-clause-refused
returns-in-None-clause-refused g c = nothing_read _ _ c.usage.ensures.unread
