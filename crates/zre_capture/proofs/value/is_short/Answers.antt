use Rattle.std.proofs.Common.{sym, ◌∙◌}
use Rattle.zre_capture.proofs.QuotedLengths.{short-some, short-none}
use Rattle.zre_capture.proofs.value.is_short.Goals as goal

pub returns-in-Some : goal.returns-in-Some
returns-in-Some c = short-some c.args.most c.in-Some.len c.args.field.now (sym c.in-Some.is ∙ c.quoted_len.ensures)

pub returns-in-None : goal.returns-in-None
returns-in-None c = short-none c.args.most c.args.field.now (sym c.in-None.is ∙ c.quoted_len.ensures)
