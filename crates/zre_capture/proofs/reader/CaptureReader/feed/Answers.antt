use Rattle.std.proofs.Common.{◌++◌, List, ℕ, Some, sym, ap, ◌∙◌, subst}
use Rattle.std.proofs.lemmas.Result.{err_from_is_err_and}
use Rattle.zre_capture.specs.declared.fault.BadCapture.{BadCapture}
use Rattle.zre_capture.specs.Journal.{CaptureReading, Reads}
use Rattle.zre_capture.proofs.LineByLine.{amid-line, amid-out, amid-at, adds-front, refused-line, refused-end, read-all, refuses-weaker}
use Rattle.zre_capture.proofs.reader.CaptureReader.feed.Goals as goal

pub returns-in_err-take_line-clause-refused : goal.returns-in_err-take_line-clause-refused
returns-in_err-take_line-clause-refused c = λ o reads.
    let p = err_from_is_err_and c.from_residual.result c.from_residual.ensures.1 in
    let amid = amid-out c.args.self.now c.args.piece.now c.args.out.now c.lines.out c.take_line.new.out c.lines.self c.lines.rest.now c.lines.invariant c.in_err-take_line.ensures.unchanged in
    rw (p.1, p.2) (refuses-weaker c.in_err-take_line.field-0.0 _ _
    (λ b f. let w = refused-line o c.args.piece.now c.args.self.now c.lines.self c.args.out.now c.take_line.new.out c.lines.rest.now reads amid c.in-Some.text.now c.in-Some.after.now c.in-Some.ensures.parts c.in-Some.ensures.first f.0 in
    (w.0 ∙ ap (λ (place : BadCapture). Some place) (sym f.1), w.1, c.in_err-take_line.ensures.settings_unchanged ∙ w.2)) c.in_err-take_line.ensures.refused)

pub returns-in_err-take_line-clause-front : goal.returns-in_err-take_line-clause-front
returns-in_err-take_line-clause-front c = λ o reads.
    let p = err_from_is_err_and c.from_residual.result c.from_residual.ensures.1 in
    let amid = amid-out c.args.self.now c.args.piece.now c.args.out.now c.lines.out c.take_line.new.out c.lines.self c.lines.rest.now c.lines.invariant c.in_err-take_line.ensures.unchanged in
    rw p.1 (adds-front o c.args.piece.now c.args.self.now c.lines.self c.args.out.now c.take_line.new.out c.lines.rest.now reads amid)

pub lines-preserved : goal.lines-preserved
lines-preserved c =
    let says = c.in_ok-take_line.ensures.ok in
    amid-at c.args.self.now c.args.piece.now c.args.out.now c.take_line.new.out _ c.take_line.new.self c.in-Some.after.now
    (amid-line c.args.self.now c.args.piece.now c.args.out.now c.lines.out c.take_line.new.out says.0 c.lines.self c.lines.rest.now c.in-Some.text.now c.in-Some.after.now c.lines.invariant
    c.in-Some.ensures.parts c.in-Some.ensures.first says.1 says.2) says.3

pub returns-in_err-gather-clause-refused : goal.returns-in_err-gather-clause-refused
returns-in_err-gather-clause-refused c = λ o reads.
    let p = err_from_is_err_and c.from_residual-in_err-gather.result c.from_residual-in_err-gather.ensures.1 in
    let now : CaptureReading = record { place = c.self.inside.place; told = c.self.inside.told; left = c.self.inside.left } in
    let amid = amid-at c.args.self.now c.args.piece.now c.args.out.now c.lines.out c.lines.self now c.lines.rest.now c.lines.invariant c.self.view_is in
    rw (p.1, p.2) (refuses-weaker c.in_err-gather.field-0.0 _ _
    (λ b f. let w = refused-end o c.args.piece.now c.args.self.now now c.args.out.now c.lines.out c.lines.rest.now reads amid c.in_default.ensures.none f.0 in
    (w.0 ∙ ap (λ (place : BadCapture). Some place) (sym f.1), w.1, w.2)) c.in_err-gather.ensures.refused)

pub returns-in_err-gather-clause-front : goal.returns-in_err-gather-clause-front
returns-in_err-gather-clause-front c = λ o reads.
    let p = err_from_is_err_and c.from_residual-in_err-gather.result c.from_residual-in_err-gather.ensures.1 in
    rw p.1 (adds-front o c.args.piece.now c.args.self.now c.lines.self c.args.out.now c.lines.out c.lines.rest.now reads c.lines.invariant)

pub returns-clause-ok : goal.returns-clause-ok
returns-clause-ok c = λ o reads.
    let g = c.in_ok-gather.ensures.ok in
    let now : CaptureReading = record { place = c.self.inside.place; told = c.self.inside.told; left = c.self.inside.left } in
    let amid = amid-at c.args.self.now c.args.piece.now c.args.out.now c.lines.out c.lines.self now c.lines.rest.now c.lines.invariant c.self.view_is in
    let w = read-all o c.args.piece.now c.args.self.now now c.args.out.now c.lines.out c.lines.rest.now reads amid c.in_default.ensures.none g.1 in
    (subst (λ (l : List ℕ). Reads (o ++ c.args.piece.now) (record { place = c.self.inside.place; told = c.self.inside.told; left = l })) (sym g.0) w.0, w.1, w.2)
