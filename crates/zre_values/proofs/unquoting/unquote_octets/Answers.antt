use Rattle.std.proofs.Common.{arith, ◌<◌, ◌∙◌, length, ◌++◌, ◌∷◌, [], ◌^◌, ◌==◌, false, sym, ap, Some, ◌≡◌, List, ℕ}
use Rattle.std.proofs.lemmas.Bool.{eqb-true, eqb-false}
use Rattle.std.specs.Prelude.{flat_map}
use Rattle.std.proofs.lemmas.List.{append-nil, nil_from_length}
use Rattle.std.proofs.lemmas.List.Elements.{All-push, All-same}
use Rattle.zre_values.specs.Text.{quoted_octet}
use Rattle.zre_values.proofs.QuotedTexts.{next, one-more, whole}
use Rattle.zre_values.proofs.unquoting.unquote_octets.Goals as goal

pub returns-in_default-clause-back : goal.returns-in_default-clause-back
returns-in_default-clause-back c = λ v fits e.
    let isnt : (length c.octets.rest.now == 0) ≡ false = sym c.is_empty.ensures ∙ c.octets-test.true in
    let some : 0 < length c.octets.rest.now = omega (arith, eqb-false (length c.octets.rest.now) 0 isnt) in
    let n = next c.octets.octets v c.octets.rest.now c.octets.invariant.fit fits (c.octets.invariant.so_far ∙ e) some in
    absurd (c.in_default.ensures.back n.octet n.others n.octet_fits n.text)

pub returns-clause-back : goal.returns-clause-back
returns-clause-back c = λ v fits e.
    let none : length c.octets.rest.now ≡ 0 = eqb-true _ _ (sym c.is_empty.ensures ∙ c.octets-test.false) in
    ap (λ (o : List ℕ). Some o) (sym (whole c.octets.octets v c.octets.rest.now c.octets.invariant.fit fits (c.octets.invariant.so_far ∙ e) none))

pub octets-preserved : goal.octets-preserved
octets-preserved c =
    let o = c.octets.octets in
    let b = c.in-Some.octet in
    let grown : c.push.new.self ≡ o ++ (b ∷ []) = c.in_ok-push.ensures.ok in
    record {
      so_far = one-more o c.push.new.self b c.octets.rest.now c.in-Some.later.now c.args.text.now grown c.in-Some.ensures.value c.octets.invariant.so_far;
      fit = All-same (λ b. b < 2 ^ 8) c.push.new.self (o ++ (b ∷ [])) grown (All-push (λ b. b < 2 ^ 8) o b c.octets.invariant.fit c.in-Some.ensures.octet);
    }

pub returns-clause-value : goal.returns-clause-value
returns-clause-value c =
    let none : length c.octets.rest.now ≡ 0 = eqb-true _ _ (sym c.is_empty.ensures ∙ c.octets-test.false) in
    let nil : c.octets.rest.now ≡ [] = nil_from_length _ none in
    let o = flat_map quoted_octet c.octets.octets in
    sym (sym (append-nil o) ∙ ap (λ (r : List ℕ). o ++ r) (sym nil) ∙ c.octets.invariant.so_far)
