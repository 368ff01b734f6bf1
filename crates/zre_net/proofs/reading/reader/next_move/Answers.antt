use Rattle.std.proofs.Common.{sym, ap, ◌∙◌}
use Rattle.zre_net.specs.Reading.{lines_in, moves_in, with_first}
use Rattle.zre_net.proofs.TextLineByLine.{moves-cut, moves-whole}
use Rattle.zre_net.proofs.reading.reader.next_move.Goals as goal

pub returns-in-Some-2 : goal.returns-in-Some-2
returns-in-Some-2 c = let e = c.in-Some.ensures in
    sym c.lines.invariant ∙ moves-cut c.lines.rest.now c.in-Some.line.now c.in-Some.after.now e.parts e.first
    ∙ ap (λ o. with_first o (moves_in (lines_in c.in-Some.after.now))) (sym c.in_ok-said.ensures ∙ c.in-Some-2.is)

pub lines-preserved : goal.lines-preserved
lines-preserved c = let e = c.in-Some.ensures in
    sym (moves-cut c.lines.rest.now c.in-Some.line.now c.in-Some.after.now e.parts e.first
    ∙ ap (λ o. with_first o (moves_in (lines_in c.in-Some.after.now))) (sym c.in_ok-said.ensures ∙ c.in_default-2.is))
    ∙ c.lines.invariant

pub returns : goal.returns
returns c = sym c.lines.invariant ∙ moves-whole c.lines.rest.now c.in_default.ensures.none
