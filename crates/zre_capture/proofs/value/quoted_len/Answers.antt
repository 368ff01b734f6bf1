use Rattle.std.proofs.Common.{◌≡◌, ◌*◌, ◌-◌, ℕ, List, length, arith, Some, sym, ap, ◌∙◌}
use Rattle.std.specs.Prelude.{option_map, codes}
use Rattle.zre_capture.specs.Values.{group_of}
use Rattle.zre_capture.proofs.TextParts.{equal, unequal}
use Rattle.zre_capture.proofs.FieldTexts.{value_there}
use Rattle.zre_capture.proofs.QuotedLengths.{len-tilde, len-some}
use Rattle.zre_capture.proofs.value.quoted_len.Goals as goal

pub returns-then-eq : goal.returns-then-eq
returns-then-eq c = len-tilde c.args.field.now (equal c.args.field.now c.as_slice.result.now (codes "~") c.eq.result c.eq.ensures c.as_slice.ensures c.if-eq.true)

pub overflow_sub-result : goal.overflow_sub-result
overflow_sub-result c =
    let v = value_there (group_of c.args.field.now) (sym c.is_group.ensures ∙ c.if-not-is_group.false) in
    let len = len-some c.args.field.now v.0 v.1 (unequal c.args.field.now c.as_slice.result.now (codes "~") c.eq.result c.eq.ensures c.as_slice.ensures c.if-eq.false) in
    let count = c.percents.ensures in
    omega (arith, len, count)

pub returns : goal.returns
returns c =
    let v = value_there (group_of c.args.field.now) (sym c.is_group.ensures ∙ c.if-not-is_group.false) in
    let len = len-some c.args.field.now v.0 v.1 (unequal c.args.field.now c.as_slice.result.now (codes "~") c.eq.result c.eq.ensures c.as_slice.ensures c.if-eq.false) in
    let count = c.percents.ensures in
    let same : length c.args.field.now - 2 * c.percents.result ≡ length v.0 = omega (arith, len, count) in
    ap (λ (n : ℕ). Some n) same ∙ sym (ap (option_map (λ (o : List ℕ). length o)) v.1)
