use Rattle.std.proofs.Common.{Some, List, ℕ, inl, inr, sym, ap, ◌∙◌, arith}
use Rattle.std.specs.Prelude.{codes}
use Rattle.std.proofs.lemmas.Bool.{eqb-true}
use Rattle.zre_capture.specs.Values.{hex_of}
use Rattle.zre_capture.proofs.TextParts.{equal, unequal}
use Rattle.zre_capture.proofs.DecodedPairs.{unpaired}
use Rattle.zre_capture.proofs.HexPairs.{hex_of-dash}
use Rattle.zre_capture.proofs.hexadecimal.hex.Goals.{then-is_empty-via-then-is_empty, then-is_empty-via-else-is_empty+then-field-ne0}
use Rattle.zre_capture.proofs.hexadecimal.hex.Goals as goal

pub returns-then-eq : goal.returns-then-eq
returns-then-eq c =
    let dash = equal c.args.field.now c.as_slice.result.now (codes "-") c.eq.result c.eq.ensures c.as_slice.ensures c.if-eq.true in
    ap (λ (o : List ℕ). Some o) c.new.ensures ∙ sym (ap hex_of dash ∙ hex_of-dash)

pub returns-then-is_empty : goal.returns-then-is_empty
returns-then-is_empty c =
    let dash = unequal c.args.field.now c.as_slice.result.now (codes "-") c.eq.result c.eq.ensures c.as_slice.ensures c.if-eq.false in
    elim c.then-is_empty.branch [
      | then-is_empty-via-then-is_empty w ↦ unpaired c.args.field.now dash (inl (eqb-true _ _ (sym c.is_empty.ensures ∙ w.if-is_empty.true)))
      | then-is_empty-via-else-is_empty+then-field-ne0 w ↦ unpaired c.args.field.now dash (inr (λ e. omega (arith, e, w.if-field-ne0.true)))
    ]
