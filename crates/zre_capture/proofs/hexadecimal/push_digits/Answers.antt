use Rattle.std.proofs.Common.{◌≡◌, ◌++◌, ◌∙◌, ℕ, List, [], length, drop, take, sym, ap, append_assoc}
use Rattle.std.proofs.lemmas.Bool.{eqb-true}
use Rattle.std.proofs.lemmas.List.{append-nil, nil_from_length}
use Rattle.hex.specs.Hex.{encode_lower}
use Rattle.zre_capture.proofs.HexSplits.{encode_lower-split, encode_lower-nil}
use Rattle.zre_capture.proofs.hexadecimal.push_digits.Goals as goal

turned : (n : ℕ) (out new o front after all : List ℕ) → front ≡ take n o → after ≡ drop n o → new ≡ out ++ encode_lower front → out ++ encode_lower o ≡ all → new ++ encode_lower after ≡ all
turned n out new o front after all f b e so_far =
    ap (λ (r : List ℕ). r ++ encode_lower after) e ∙ append_assoc out (encode_lower front) (encode_lower after)
    ∙ ap (λ (r : List ℕ). out ++ (encode_lower r ++ encode_lower after)) f ∙ ap (λ (r : List ℕ). out ++ (encode_lower (take n o) ++ encode_lower r)) b
    ∙ ap (λ (r : List ℕ). out ++ r) (sym (encode_lower-split n o)) ∙ so_far

pub loop-rest-preserved : goal.loop-rest-preserved
loop-rest-preserved c =
    turned c.min.result c.loop-rest.out c.push_turn.new.out c.loop-rest.rest.now c.split_at.result.0.now c.split_at.result.1.now _ c.split_at.ensures.front c.split_at.ensures.back c.in_ok-push_turn.ensures c.loop-rest.invariant

pub returns : goal.returns
returns c =
    let none : length c.loop-rest.rest.now ≡ 0 = eqb-true _ _ (sym c.is_empty.ensures ∙ c.loop-rest-test.false) in
    let nil : c.loop-rest.rest.now ≡ [] = nil_from_length c.loop-rest.rest.now none in
    sym (ap (λ (r : List ℕ). c.loop-rest.out ++ encode_lower r) nil ∙ ap (λ (r : List ℕ). c.loop-rest.out ++ r) encode_lower-nil ∙ append-nil c.loop-rest.out) ∙ c.loop-rest.invariant
