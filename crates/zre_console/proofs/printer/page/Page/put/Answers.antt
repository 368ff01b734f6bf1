use Rattle.zre_console.proofs.printer.AnsweredCall.{answered}
use Rattle.zre_console.proofs.printer.page.Page.put.Goals as goal

pub returns-clause-counts : goal.returns-clause-counts
returns-clause-counts g c = answered c.write_much.result _ _ c.write_much.ensures.counts
