use Rattle.std.proofs.Common.{◌≡◌, ℕ, List, ◌==◌, ◌∷◌, ◌++◌, None, Some, length, take, drop, sym, ap, ◌∙◌}
use Rattle.std.specs.Prelude.{position}
use Rattle.std.proofs.lemmas.List.{take_at, drop_at}
use Rattle.zre_values.proofs.FirstPlaces.{position-split, position-parts}
use Rattle.zre_values.proofs.endpoint.split_once.Goals as goal

pub returns-in_err-i-clause-back : goal.returns-in_err-i-clause-back
returns-in_err-i-clause-back c = λ x y lacks e.
    let found = position-split c.args.octet x y lacks in
    let none : None ≡ position (λ b. b == c.args.octet) c.args.text.now = c.in_err-i.ensures in
    absurd (cc (none, found, e))

pub returns-clause-value : goal.returns-clause-value
returns-clause-value c =
    let o = c.args.octet in
    let i = c.in_ok-i.i in
    let text = c.args.text.now in
    let parts = (position-parts o text i (sym (c.in_ok-i.ensures))).1 in
    let front = ap (λ (f : List ℕ). f ++ (o ∷ drop 1 (drop i text))) (sym c.split_at.ensures.front) in
    let later = sym (c.split_at-2.ensures.back ∙ ap (drop 1) c.split_at.ensures.back) in
    parts ∙ front ∙ ap (λ (l : List ℕ). c.split_at.result.0.now ++ (o ∷ l)) later

pub returns-clause-back : goal.returns-clause-back
returns-clause-back c = λ x y lacks e.
    let o = c.args.octet in
    let i = c.in_ok-i.i in
    let found = position-split o x y lacks in
    let some : Some i ≡ Some (length x) = c.in_ok-i.ensures ∙ ap (position (λ b. b == o)) e ∙ found in
    let at : i ≡ length x = cc some in
    let front = ap (take i) e ∙ take_at x (o ∷ y) i (sym at) in
    let rest = ap (drop i) e ∙ drop_at x (o ∷ y) i (sym at) in
    (c.split_at.ensures.front ∙ front, c.split_at-2.ensures.back ∙ ap (drop 1) (c.split_at.ensures.back ∙ rest))
