use Rattle.std.proofs.Common.{◌≡◌, ℕ, ◌+◌, List, ◌++◌, ◌&&◌, false, drop, refl, sym, ap, ◌∙◌, nat_cmp, subst}
use Rattle.std.proofs.lemmas.Map.Keys.{sorted_from_strictly_increasing}
use Rattle.std.specs.List.Sorted.{IsStrictlySortedBy}
use Rattle.std.specs.Map.{keys_of}
use Rattle.zre_link.specs.Link.{has_front}
use Rattle.zre_tables.specs.declared.peer.Peer.{Peer}
use Rattle.zre_tables.specs.Searches.{begins_with, offered_among, since_link}
use Rattle.zre_tables.proofs.RowsInOrder.{next_of}
use Rattle.zre_tables.proofs.OffersByWalk.{offered_first, not_first, not_both, no_first, sorted_since, sorted_rest}
use Rattle.zre_tables.proofs.offers.offer_rows.Goals as goal
use Rattle.zre_tables.proofs.offers.offer_rows.Goals.{then-is_next+then-is_offered+in_ok-push, else-is_next, else-is_next-via-then-is_next+else-is_offered, else-is_next-via-else-is_next}

pub loop-link-init : goal.loop-link-init
loop-link-init c = (refl, sorted_from_strictly_increasing c.args.links.now c.requires.rising, c.requires.sorted)

pub loop-link-preserved : goal.loop-link-preserved
loop-link-preserved c =
    let es = c.args.rows.now.all.items in
    let i = c.loop-link.link-index in
    let e = c.loop-link-item.result in
    let rest = drop (i + 1) es in
    let steps = next_of c.deref-link-items.result.now es i e c.deref-link-items.ensures.value c.loop-link-test.true c.loop-link-item.is in
    let ls = c.loop-link.rest.now in
    let inv = c.loop-link.invariant in
    let was = ap (λ (fs : List (ℕ × Peer)). c.loop-link.acts ++ offered_among ls fs) (sym steps) ∙ inv.0 in
    let keys = subst (λ (fs : List (ℕ × Peer)). IsStrictlySortedBy nat_cmp (keys_of fs)) steps inv.2 in
    let first = ap (begins_with e.0) (sym c.not_below-rest.ensures) ∙ sym c.is_next.ensures in (
      elim c.if-is_next.branch [
        | then-is_next+then-is_offered+in_ok-push w ↦ rw w.acts-is (ap (λ (ks : List ℕ). w.push.new.self ++ offered_among ks rest) c.not_below-rest.ensures
            ∙ offered_first ls e rest c.loop-link.acts w.push.new.self _ inv.1 keys (first ∙ w.if-is_next.true) (sym w.is_offered.ensures ∙ w.if-is_offered.true) w.in_ok-push.ensures.ok was)
        | else-is_next w ↦
            let off : (begins_with e.0 (since_link e.0 ls) && has_front e.1.link) ≡ false = elim w.else-is_next.branch [
              | else-is_next-via-then-is_next+else-is_offered v ↦ not_both _ _ (first ∙ v.if-is_next.true) (sym v.is_offered.ensures ∙ v.if-is_offered.false)
              | else-is_next-via-else-is_next v ↦ no_first _ _ (first ∙ v.if-is_next.false)
            ] in
            rw w.acts-is (ap (λ (ks : List ℕ). c.loop-link.acts ++ offered_among ks rest) c.not_below-rest.ensures ∙ not_first ls e rest c.loop-link.acts _ inv.1 keys off was)
      ],
      subst (IsStrictlySortedBy nat_cmp) (sym c.not_below-rest.ensures) (sorted_since e.0 ls inv.1),
      sorted_rest e rest keys,
    )
