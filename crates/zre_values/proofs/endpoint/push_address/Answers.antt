use Rattle.std.proofs.Common.{◌≡◌, ◌++◌, ◌∷◌, [], ◌∙◌, List, ℕ, length, get_or, sym, ap, append_assoc, rules}
use Rattle.std.specs.Prelude.{decimal}
use Rattle.std.proofs.lemmas.Result.{on_ok_weaker}
use Rattle.zre_values.proofs.Addresses.{address_text_array}
use Rattle.zre_values.proofs.endpoint.push_address.Goals as goal

-- a text with a dot and another after it
dot : (o a b : List ℕ) → ((o ++ a) ++ 46 ∷ []) ++ b ≡ o ++ (a ++ (46 ∷ b))
dot o a b = append_assoc (o ++ a) (46 ∷ []) b ∙ append_assoc o a (46 ∷ b)

four_joined : (o a b c d : List ℕ) → ((((((o ++ a) ++ 46 ∷ []) ++ b) ++ 46 ∷ []) ++ c) ++ 46 ∷ []) ++ d ≡ o ++ (a ++ (46 ∷ (b ++ (46 ∷ (c ++ (46 ∷ d))))))
four_joined o a b c d =
    dot ((((o ++ a) ++ 46 ∷ []) ++ b) ++ 46 ∷ []) c d
    ∙ dot ((o ++ a) ++ 46 ∷ []) b (c ++ (46 ∷ d))
    ∙ dot o a (b ++ (46 ∷ (c ++ (46 ∷ d))))

pub returns : goal.returns
returns c =
    let four : length c.args.addr ≡ 4 = search rules in
    let octet : ℕ → List ℕ = λ i. decimal (get_or c.args.addr i 0) in
    let first = c.in_ok-push_decimal.ensures.ok in
    let second = c.in_ok-push_decimal-2.ensures.ok ∙ ap (λ (o : List ℕ). o ++ octet 1) (c.in_ok-push.ensures.ok ∙ ap (λ (o : List ℕ). o ++ 46 ∷ []) first) in
    let third = c.in_ok-push_decimal-3.ensures.ok ∙ ap (λ (o : List ℕ). o ++ octet 2) (c.in_ok-push-2.ensures.ok ∙ ap (λ (o : List ℕ). o ++ 46 ∷ []) second) in
    let before = c.in_ok-push-3.ensures.ok ∙ ap (λ (o : List ℕ). o ++ 46 ∷ []) third in
    on_ok_weaker c.push_decimal-4.result (λ e. e ∙ ap (λ (o : List ℕ). o ++ octet 3) before ∙ four_joined c.args.out.now (octet 0) (octet 1) (octet 2) (octet 3)
    ∙ ap (λ (o : List ℕ). c.args.out.now ++ o) (sym (address_text_array c.args.addr four))) c.push_decimal-4.ensures.ok
