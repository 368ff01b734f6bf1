use Rattle.std.proofs.Common.{ℕ, ◌+◌, List, Some, take, drop, ap, ◌∙◌}
use Rattle.std.specs.Prelude.{option_map}
use Rattle.std.proofs.lemmas.List.{drop-drop}
use Rattle.zre_app.proofs.node_words.header_of.Goals as goal

pub returns : goal.returns
returns c =
    let i = c.in-Some.i in
    let text = c.args.text.now in
    let front = c.in_ok-copy.ensures ∙ c.split_at.ensures.front in
    let after = c.in_ok-copy-2.ensures ∙ c.split_at-2.ensures.back ∙ ap (drop 1) c.split_at.ensures.back ∙ drop-drop 1 i text in
    ap (λ (x : List ℕ). Some (x, c.in_ok-copy-2.field-0)) front ∙ ap (λ (x : List ℕ). Some (take i text, x)) after
    ∙ ap (option_map (λ (n : ℕ). (take n text, drop (n + 1) text))) c.in-Some.ensures
