use Rattle.std.proofs.Common.{◌++◌, [], ◌∷◌, List, ℕ, ap, ◌∙◌}
use Rattle.std.specs.Prelude.{codes}
use Rattle.std.proofs.lemmas.Result.{IfOk-weaker}
use Rattle.zre_values.specs.Address.{address_text}
use Rattle.zre_values.specs.Text.{id_text, quoted}
use Rattle.zre_capture.proofs.HeadSettings.{who_joined}
use Rattle.zre_capture.proofs.head.push_who.Goals as goal

pub returns : goal.returns
returns c =
    IfOk-weaker c.push_address.result _ _ (λ _ e.
    e ∙ ap (λ (o : List ℕ). o ++ address_text c.args.settings.now.host) (c.in_ok-push-2.ensures.ok ∙ ap (λ (o : List ℕ). o ++ (32 ∷ []))
    (c.in_ok-push_quoted.ensures ∙ ap (λ (q : List ℕ). c.push.new.self ++ quoted q) c.as_slice.ensures ∙ ap (λ (o : List ℕ). o ++ quoted c.args.settings.now.name)
    (c.in_ok-push.ensures.ok ∙ ap (λ (o : List ℕ). o ++ (32 ∷ [])) (c.in_ok-push_to.ensures.ok ∙ ap (λ (o : List ℕ). o ++ id_text c.args.settings.now.id) c.in_ok-append.ensures.ok))))
    ∙ who_joined c.args.out.now (codes "zre-capture 2 ") (id_text c.args.settings.now.id) (quoted c.args.settings.now.name) (address_text c.args.settings.now.host)) c.push_address.ensures
