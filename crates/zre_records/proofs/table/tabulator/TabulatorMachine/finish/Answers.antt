use Rattle.std.proofs.Common.{sym, ◌∙◌}
use Rattle.zre_capture.specs.Journal.{bad_at_end}
use Rattle.zre_capture.specs.declared.format.Format.TheVariants.{Second}
use Rattle.zre_outside.proofs.AnswersThatAreErrors.{on_err}
use Rattle.zre_outside.proofs.GatheredText.{gathers}
use Rattle.zre_records.specs.table.Table.{text}
use Rattle.zre_records.proofs.CommandEnding.{bad_end, good_front, good_through}
use Rattle.zre_records.proofs.table.TabulatorFedPiece.{text_is}
use Rattle.zre_records.proofs.table.tabulator.TabulatorMachine.finish.Goals as goal

pub returns-then-branch-clause-bad : goal.returns-then-branch-clause-bad
returns-then-branch-clause-bad g c = λ o f l. sym c.if-branch.true ∙ c.in_ok-finish.ensures.bad Second o f.follows.reads

pub returns-then-branch-clause-ending : goal.returns-then-branch-clause-ending
returns-then-branch-clause-ending g c = λ o f l. gathers _ _ _ _
    (bad_end (bad_at_end Second o) (text c.args.self.now.group o) c.args.text.now c.finish.new.out (sym c.if-branch.true ∙ c.in_ok-finish.ensures.bad Second o f.follows.reads) (c.in_ok-finish.ensures.refused Second o f.follows.reads))

pub returns-clause-bad : goal.returns-clause-bad
returns-clause-bad g c = λ o f l. sym c.if-branch.false ∙ c.in_ok-finish.ensures.bad Second o f.follows.reads

pub returns-clause-ending : goal.returns-clause-ending
returns-clause-ending g c = λ o f l.
    good_through (bad_at_end Second o) (text c.args.self.now.group o) _ c.args.text.now c.finish.new.out _ _ _ (sym c.if-branch.false ∙ c.in_ok-finish.ensures.bad Second o f.follows.reads) (c.in_ok-finish.ensures.refused Second o f.follows.reads)
    (text_is c.args.self.now o f) c.in_ok-write_lines.ensures.through

pub returns-in_err-write_lines-clause-front : goal.returns-in_err-write_lines-clause-front
returns-in_err-write_lines-clause-front g c = λ o f l. on_err c.from_residual-in_err-write_lines.result
    (good_front (bad_at_end Second o) (text c.args.self.now.group o) _ c.args.text.now c.finish.new.out _ _ (sym c.if-branch.false ∙ c.in_ok-finish.ensures.bad Second o f.follows.reads) (c.in_ok-finish.ensures.refused Second o f.follows.reads)
    (text_is c.args.self.now o f) c.in_err-write_lines.ensures.front)
