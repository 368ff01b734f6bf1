use Rattle.std.proofs.Common.{sym, ◌∙◌}
use Rattle.zre_console.proofs.printer.PageShows.{none_of, missed, line_came, line_refused}
use Rattle.zre_console.proofs.printer.page.Page.print.Goals as goal
use Rattle.zre_capture.proofs.LineByLine.{none_is}

pub returns-then-is_some-clause-shows : goal.returns-then-is_some-clause-shows
returns-then-is_some-clause-shows g c = λ w es h. missed c.args.self.now w _ es h c.args.event.now (none_of c.args.self.now.fault (sym c.is_some.ensures ∙ c.if-is_some.true))

pub returns-in-Err-clause-shows : goal.returns-in-Err-clause-shows
returns-in-Err-clause-shows g c = λ w es h.
    line_refused c.args.self.now w _ es h _ _ (none_is c.args.self.now.fault (sym c.is_some.ensures ∙ c.if-is_some.false)) c.args.event.now (λ is. cc) c.in-Err.ensures.front

pub returns-in_default-clause-shows : goal.returns-in_default-clause-shows
returns-in_default-clause-shows g c = λ w es h.
    line_came c.args.self.now w _ es h c.put.new.self _ (none_is c.args.self.now.fault (sym c.is_some.ensures ∙ c.if-is_some.false)) c.args.event.now c.in_default.ensures.through
