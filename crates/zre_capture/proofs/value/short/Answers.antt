use Rattle.std.proofs.Common.{sym, ◌∙◌}
use Rattle.std.proofs.lemmas.Result.{IfOk-weaker}
use Rattle.zre_capture.proofs.QuotedLengths.{short-group}
use Rattle.zre_capture.proofs.value.short.Goals as goal

pub returns-then-is_short : goal.returns-then-is_short
returns-then-is_short c = IfOk-weaker c.group.result _ _ (λ found e. e ∙ short-group c.args.most c.args.field.now (sym c.is_short.ensures ∙ c.if-is_short.true)) c.group.ensures
