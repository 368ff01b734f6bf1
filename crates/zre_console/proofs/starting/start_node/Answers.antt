use Rattle.std.proofs.Common.{ap}
use Rattle.zre_console.specs.Tables.{parts}
use Rattle.zre_console.proofs.starting.start_node.Goals as goal

pub returns-in-Ok-clause-started : goal.returns-in-Ok-clause-started
returns-in-Ok-clause-started g c = ap (λ j. parts j.pipes j.world j.node j.pass j.rec j.keep j.limit) c.in-Ok.ensures.started

pub returns-in-Err-clause-refused : goal.returns-in-Err-clause-refused
returns-in-Err-clause-refused g c = ap (λ j. (j.world, j.rec)) c.in-Err.ensures.refused
