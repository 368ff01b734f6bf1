use Rattle.std.proofs.lemmas.Result.{err_from_is_err_and}
use Rattle.zre_console.proofs.lines.TypedPieces.{amid-start, amid-line, amid-at, amid-out, all-taken, front-taken}
use Rattle.zre_console.proofs.lines.typist.Typist.feed.Goals as goal

pub lines-init : goal.lines-init
lines-init c = amid-start c.args.self.now c.args.piece.now c.args.out.now.items

pub returns-in_err-take_line-clause-front : goal.returns-in_err-take_line-clause-front
returns-in_err-take_line-clause-front c = λ o is.
    let p = err_from_is_err_and c.from_residual.result c.from_residual.ensures.1 in
    let amid = amid-out c.args.self.now c.args.piece.now c.args.out.now.items c.lines.out.items c.take_line.new.out.items c.lines.self c.lines.rest.now c.lines.invariant c.in_err-take_line.ensures.unchanged in
    rw p.1 (front-taken o c.args.piece.now c.args.self.now c.lines.self c.args.out.now.items c.take_line.new.out.items c.lines.rest.now is amid)

pub lines-preserved : goal.lines-preserved
lines-preserved c =
    amid-at c.args.self.now c.args.piece.now c.args.out.now.items c.take_line.new.out.items _ c.take_line.new.self c.in-Some.later.now
    (amid-line c.args.self.now c.args.piece.now c.args.out.now.items c.lines.out.items c.take_line.new.out.items c.lines.self c.lines.rest.now c.in-Some.text.now c.in-Some.later.now c.lines.invariant
    c.in-Some.ensures.parts c.in-Some.ensures.first c.in_ok-take_line.ensures.ok) c.in_ok-take_line.ensures.next

pub returns-in_err-gather-clause-front : goal.returns-in_err-gather-clause-front
returns-in_err-gather-clause-front c = λ o is.
    let p = err_from_is_err_and c.from_residual-in_err-gather.result c.from_residual-in_err-gather.ensures.1 in
    rw p.1 (front-taken o c.args.piece.now c.args.self.now c.lines.self c.args.out.now.items c.lines.out.items c.lines.rest.now is c.lines.invariant)

pub returns-clause-ok : goal.returns-clause-ok
returns-clause-ok c = λ o is.
    all-taken o c.args.piece.now c.args.self.now c.lines.self c.args.out.now.items c.lines.out.items c.lines.rest.now is c.lines.invariant
    c.gather.new.self c.in_default.ensures.none c.in_ok-gather.ensures.line c.in_ok-gather.ensures.held
