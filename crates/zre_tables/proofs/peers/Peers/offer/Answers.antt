use Rattle.std.proofs.Common.{◌++◌, ℕ, List, ap, ◌∙◌, sym, eqb, subst}
use Rattle.std.proofs.lemmas.Result.{on_ok_weaker}
use Rattle.std.specs.List.{list_any}
use Rattle.zre_outside.specs.declared.act.Act.{Act}
use Rattle.zre_values.specs.Keys.{IsRisingListOf}
use Rattle.zre_tables.specs.declared.peer.Peer.{Peer}
use Rattle.zre_tables.specs.Searches.{offered_among}
use Rattle.zre_tables.proofs.OffersByLinks.{offers_by_links}
use Rattle.zre_tables.proofs.peers.Peers.offer.Goals as goal

pub offer_rising-requires-clause-rising : goal.offer_rising-requires-clause-rising
offer_rising-requires-clause-rising c = c.is_rising.ensures c.if-is_rising.true

pub offer_rising-requires-clause-sorted : goal.offer_rising-requires-clause-sorted
offer_rising-requires-clause-sorted c = c.self.invariant.rising

pub returns-then-is_rising : goal.returns-then-is_rising
returns-then-is_rising c =
    let acts = c.args.acts.now in
    on_ok_weaker c.offer_rising.result (λ e.
    e ∙ ap (λ (ks : List ℕ). acts ++ offered_among ks c.self.inside.rows.all.items) c.as_slice-links.ensures
    ∙ ap (λ (es : List (ℕ × Peer)). acts ++ offered_among c.args.pushed.now es) c.self.view_is) c.offer_rising.ensures

pub returns : goal.returns
returns c =
    let pushed = c.args.pushed.now in
    let acts = c.args.acts.now in
    let rising = subst (λ (xs : List ℕ). IsRisingListOf (λ n. list_any (eqb n) pushed) xs) (sym c.as_slice.ensures)
    (subst (λ (xs : List ℕ). IsRisingListOf (λ n. list_any (eqb n) xs) c.in_ok-rising.rising) c.as_slice-links.ensures c.in_ok-rising.ensures) in
    on_ok_weaker c.offer_each.result (λ e.
    e ∙ ap (λ (xs : List Act). acts ++ xs) (offers_by_links pushed _ _ c.self.invariant.rising rising ∙ ap (λ (es : List (ℕ × Peer)). offered_among pushed es) c.self.view_is)) c.offer_each.ensures
