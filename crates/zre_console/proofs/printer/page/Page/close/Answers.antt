use Rattle.zre_console.proofs.printer.PageCalls.{then_tries}
use Rattle.zre_console.proofs.printer.page.Page.close.Goals as goal

pub returns-clause-tries : goal.returns-clause-tries
returns-clause-tries g c = then_tries _ _ _ _ _ _ _ _ _ c.write.ensures.tries c.tell_end.ensures.tries
