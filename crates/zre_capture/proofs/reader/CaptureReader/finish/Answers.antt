use Rattle.std.proofs.Common.{ℕ, List, Bool, cond, Some, None, sym, ap, ◌∙◌}
use Rattle.zre_capture.specs.Reading.{column}
use Rattle.zre_capture.specs.Journal.{CaptureReading}
use Rattle.zre_capture.proofs.LineByLine.{at_end}
use Rattle.zre_capture.proofs.reader.CaptureReader.finish.Goals as goal

pub returns-then-is_after_a_line : goal.returns-then-is_after_a_line
returns-then-is_after_a_line c = λ o reads.
    at_end o c.args.self.now reads c.requires
    ∙ ap (λ (b : Bool). cond b None (Some (record { line = c.args.self.now.place.line; column = column c.args.self.now.place c.args.self.now.left }))) (sym c.is_after_a_line.ensures ∙ c.if-is_after_a_line.true)

pub returns : goal.returns
returns c = λ o reads.
    at_end o c.args.self.now reads c.requires
    ∙ ap (λ (b : Bool). cond b None (Some (record { line = c.args.self.now.place.line; column = column c.args.self.now.place c.args.self.now.left }))) (sym c.is_after_a_line.ensures ∙ c.if-is_after_a_line.false)
    ∙ ap (λ (r : CaptureReading). Some (record { line = r.place.line; column = column r.place r.left })) (sym c.self.view_is)
    ∙ ap (λ (l : List ℕ). Some (record { line = c.self.inside.place.line; column = column c.self.inside.place l })) (sym c.as_slice.ensures)
    ∙ ap (λ (n : ℕ). Some (record { line = c.self.inside.place.line; column = n })) (sym c.column.ensures)
