use Rattle.std.proofs.Common.{ℕ, List, ◌++◌, ◌∷◌, [], take, sym, ap, ◌∙◌}
use Rattle.std.proofs.lemmas.List.{take_more}
use Rattle.std.proofs.lemmas.Option.{get_or_from_slice_get, slice_get_within}
use Rattle.zre_peer.proofs.headers.Headers.to_pairs.Goals as goal

pub loop-i-preserved : goal.loop-i-preserved
loop-i-preserved c =
    let pair : List ℕ × List ℕ = (c.get.result.0.now, c.get.result.1.now) in
    let whole = c.args.self.now in
    c.in_ok-push_copy.ensures.ok
    ∙ ap (λ ps. ps ++ pair ∷ []) c.loop-i.invariant
    ∙ sym (take_more whole c.loop-i.i pair (slice_get_within whole c.loop-i.i pair c.get.ensures)
    ∙ ap (λ p. take c.loop-i.i whole ++ p ∷ []) (get_or_from_slice_get whole c.loop-i.i pair pair c.get.ensures))
