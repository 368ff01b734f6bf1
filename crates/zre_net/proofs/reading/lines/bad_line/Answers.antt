use Rattle.std.proofs.Common.{◌+◌, Bool, cond, Some, None, length, sym, ap, ◌∙◌, arith}
use Rattle.std.proofs.lemmas.Bool.{OnTrue_at}
use Rattle.zre_net.specs.Reading.{parts_in, bad_from}
use Rattle.zre_net.proofs.TextLineByLine.{bad-cut, bad-end}
use Rattle.zre_net.proofs.reading.lines.bad_line.Goals as goal

pub returns-then-not-branch : goal.returns-then-not-branch
returns-then-not-branch c =
    let n = c.lines.n in
    let end = c.lines.used + (length c.in-Some.line.now + 1) in
    let cut = bad-cut n c.lines.used c.lines.rest.now c.in-Some.line.now c.in-Some.after.now c.in-Some.ensures.parts c.in-Some.ensures.first in
    sym (cut ∙ ap (λ (b : Bool). cond b (bad_from (n + 1) end (parts_in c.in-Some.after.now)) (Some n)) (sym c.in_ok-is_line.ensures.is ∙ c.if-not-branch.true)) ∙ c.lines.invariant.same

pub lines-preserved : goal.lines-preserved
lines-preserved c =
    let n = c.lines.n in
    let end = c.lines.used + (length c.in-Some.line.now + 1) in
    let cut = bad-cut n c.lines.used c.lines.rest.now c.in-Some.line.now c.in-Some.after.now c.in-Some.ensures.parts c.in-Some.ensures.first in
    let few = OnTrue_at c.if-not-branch.false c.in_ok-is_line.ensures.few in
    record {
      same = sym (cut ∙ ap (λ (b : Bool). cond b (bad_from (n + 1) end (parts_in c.in-Some.after.now)) (Some n)) (sym c.in_ok-is_line.ensures.is ∙ c.if-not-branch.false)) ∙ c.lines.invariant.same;
      low = omega arith;
      high = omega (arith, few);
      within = OnTrue_at c.if-not-branch.false c.in_ok-is_line.ensures.short;
    }

pub returns-then-is_after_a_line : goal.returns-then-is_after_a_line
returns-then-is_after_a_line c =
    let n = c.lines.n in
    sym (bad-end n c.lines.used c.lines.rest.now c.in_default.ensures.none ∙ ap (λ (b : Bool). cond b None (Some n)) (sym c.is_after_a_line.ensures ∙ c.if-is_after_a_line.true)) ∙ c.lines.invariant.same

pub returns : goal.returns
returns c =
    let n = c.lines.n in
    sym (bad-end n c.lines.used c.lines.rest.now c.in_default.ensures.none ∙ ap (λ (b : Bool). cond b None (Some n)) (sym c.is_after_a_line.ensures ∙ c.if-is_after_a_line.false)) ∙ c.lines.invariant.same
