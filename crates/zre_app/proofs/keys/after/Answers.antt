use Rattle.std.proofs.Common.{◌≡◌, ℕ, ◌<◌, List, [], length, drop, None, sym, ap, ◌∙◌}
use Rattle.std.proofs.lemmas.List.{at_drop_more, nil_from_length}
use Rattle.zre_app.specs.Keys.{after}
use Rattle.zre_app.proofs.keys.after.Goals as goal

-- what is left of a key stands after nothing
after_nothing : (key : List ℕ) (i : ℕ) → i < length key → after (drop i key) [] ≡ None
after_nothing key i lt = at_drop_more (λ (k : List ℕ). after k []) key i 0 lt

pub returns-in-None : goal.returns-in-None
returns-in-None c =
    let nothing : c.loop-k.rest.now ≡ [] = nil_from_length _ c.in-None.ensures.cases in
    sym (after_nothing c.args.key.now c.loop-k.k-index c.loop-k-test.true) ∙ ap (after (drop c.loop-k.k-index c.args.key.now)) (sym nothing) ∙ c.loop-k.invariant
