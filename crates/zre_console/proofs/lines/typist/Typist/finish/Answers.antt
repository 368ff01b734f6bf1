use Rattle.std.proofs.Common.{sym, ◌∙◌}
use Rattle.zre_console.specs.lines.Typing.{unfinished}
use Rattle.zre_console.proofs.lines.TypedPieces.{none-left, one-left}
use Rattle.zre_console.proofs.lines.typist.Typist.finish.Goals as goal

pub returns-then-has_nothing : goal.returns-then-has_nothing
returns-then-has_nothing c = λ o typed. none-left o c.args.self.now typed (sym c.has_nothing.ensures ∙ c.if-has_nothing.true)

pub returns : goal.returns
returns c = λ o typed.
    one-left o c.args.self.now c.in_ok-line_so_far.field-0 typed (sym c.has_nothing.ensures ∙ c.if-has_nothing.false) (c.in_ok-line_so_far.ensures (unfinished o) typed.keeps)
