use Rattle.std.proofs.Common.{sym, ◌∙◌}
use Rattle.zre_outside.proofs.GatheredText.{through_all}
use Rattle.zre_console.proofs.printer.PageShows.{all_written, front_written}
use Rattle.zre_console.proofs.printer.page.Page.write.Goals as goal
use Rattle.zre_capture.proofs.LineByLine.{none_is}

pub returns-in-Err-clause-shows : goal.returns-in-Err-clause-shows
returns-in-Err-clause-shows g c = λ w es h.
    front_written c.args.self.now w _ es h _ _ (none_is c.args.self.now.fault (sym c.is_some.ensures ∙ c.if-is_some.false)) (λ is. cc) c.in-Err.ensures.front

pub returns-in_default-clause-shows : goal.returns-in_default-clause-shows
returns-in_default-clause-shows g c = λ w es h.
    all_written c.args.self.now w _ es h _ _ (none_is c.args.self.now.fault (sym c.is_some.ensures ∙ c.if-is_some.false))
    (through_all _ _ _ _ c.in_default.ensures.empty c.in_default.ensures.written)
