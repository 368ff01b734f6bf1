use Rattle.std.proofs.Common.{sym, ap, ◌∙◌}
use Rattle.zre_capture.proofs.FieldTexts.{tested, some_is, group_of-quoted, group_of-some}
use Rattle.zre_capture.specs.Values.{group_of}
use Rattle.zre_capture.proofs.value.is_group.Goals as goal

pub returns : goal.returns
returns c =
    tested c.is_quoted.result (group_of c.args.field.now)
    (λ is. let v = c.is_quoted.ensures.0 is in some_is (group_of c.args.field.now) v.0 (ap group_of v.2 ∙ group_of-quoted v.0 v.1))
    (λ v e. let t = group_of-some c.args.field.now v e in c.is_quoted.ensures.1 (v, t.is, sym t.text))
