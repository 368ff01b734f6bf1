use Rattle.std.proofs.Common.{sym, ◌∙◌, ◌≡◌, true}
use Rattle.std.specs.Prelude.{is_some}
use Rattle.std.proofs.lemmas.Result.{IfOk-weaker}
use Rattle.zre_capture.proofs.FieldTexts.{value_there, group_of-some}
use Rattle.zre_capture.specs.Values.{group_of}
use Rattle.zre_capture.proofs.value.group.Goals as goal

pub returns-then-is_group : goal.returns-then-is_group
returns-then-is_group c =
    let there : is_some (group_of c.args.field.now) ≡ true = sym c.is_group.ensures ∙ c.if-is_group.true in
    let v = value_there (group_of c.args.field.now) there in
    let t = group_of-some c.args.field.now v.0 v.1 in
    IfOk-weaker c.unquote.result _ _ (λ found e. e ∙ sym v.1) (c.unquote.ensures.back v.0 t.is (sym t.text))
