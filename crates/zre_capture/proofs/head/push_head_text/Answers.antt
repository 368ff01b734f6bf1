use Rattle.std.proofs.Common.{◌++◌, [], ◌∷◌, List, ℕ, ap, ◌∙◌}
use Rattle.std.specs.Prelude.{decimal}
use Rattle.std.proofs.lemmas.Result.{IfOk-weaker}
use Rattle.zre_values.specs.Address.{address_text}
use Rattle.zre_values.specs.Text.{id_text, quoted, quoted_pairs}
use Rattle.zre_capture.proofs.HeadSettings.{head_joined}
use Rattle.zre_capture.proofs.head.push_head_text.Goals as goal

pub returns : goal.returns
returns c =
    IfOk-weaker c.push_quoted_pairs.result _ _ (λ _ e.
    e ∙ ap (λ (o : List ℕ). o ++ quoted_pairs c.args.settings.now.headers) (c.in_ok-push.ensures.ok ∙ ap (λ (o : List ℕ). o ++ (32 ∷ []))
    (c.in_ok-push_numbers.ensures ∙ ap (λ (o : List ℕ). o ++ (32 ∷ (decimal c.args.settings.now.port ++ (32 ∷ (decimal c.args.settings.now.evasive ++ (32 ∷ decimal c.args.settings.now.expired)))))) c.in_ok-push_who.ensures))
    ∙ head_joined c.args.out.now (id_text c.args.settings.now.id) (quoted c.args.settings.now.name) (address_text c.args.settings.now.host) (decimal c.args.settings.now.port)
    (decimal c.args.settings.now.evasive) (decimal c.args.settings.now.expired) (quoted_pairs c.args.settings.now.headers)) c.push_quoted_pairs.ensures
