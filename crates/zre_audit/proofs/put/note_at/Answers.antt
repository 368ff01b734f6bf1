use Rattle.std.proofs.Common.{ap, sym, ◌∙◌, arith, slice_set}
use Rattle.zre_audit.proofs.LinesOfLinks.{placed_set, placed_none, noted_at}
use Rattle.zre_audit.proofs.put.note_at.Goals as goal

pub returns-then-at-len : goal.returns-then-at-len
returns-then-at-len c =
    let a = c.in-Some.ensures.0 in
    let b = c.in-Some.ensures.1 in
    let n = c.len.ensures in
    let t = c.if-at-len.true in
    placed_none c.args.place c.args.lines.now.items c.in-Some.at (omega (arith, n, t)) ∙ sym (noted_at c.args.place c.args.lines.now.items c.args.link c.in-Some.at (omega (arith, a, b)))

pub returns : goal.returns
returns c =
    let a = c.in-Some.ensures.0 in
    let b = c.in-Some.ensures.1 in
    let n = c.len.ensures in
    let t = c.if-at-len.false in
    ap (slice_set c.args.lines.now.items c.in-Some.at) c.in_ok-note.ensures
    ∙ placed_set c.args.place c.args.lines.now.items c.in-Some.at c.index_mut.result.now c.index_mut.ensures.value (omega (arith, n, t))
    ∙ sym (noted_at c.args.place c.args.lines.now.items c.args.link c.in-Some.at (omega (arith, a, b)))
