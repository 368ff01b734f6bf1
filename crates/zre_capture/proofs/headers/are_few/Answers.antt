use Rattle.std.proofs.Common.{ℕ, ◌+◌, ◌==◌, ◌∙◌, ap, sym, length}
use Rattle.std.proofs.lemmas.List.Splits.{length-slice_split}
use Rattle.zre_capture.specs.Parts.{between}
use Rattle.zre_capture.proofs.HeaderLists.{few-test}
use Rattle.zre_capture.proofs.headers.are_few.Goals as goal

pub returns : goal.returns
returns c =
    few-test c.commas.result (length (between 44 c.args.field.now))
    (length-slice_split (λ b. b == 44) c.args.field.now ∙ ap (λ (n : ℕ). n + 1) (sym c.commas.ensures))
