use Rattle.std.proofs.Common.{true, false, sym, ◌∙◌}
use Rattle.std.proofs.lemmas.List.{take_more}
use Rattle.zre_tables.specs.Searches.{row_offered}
use Rattle.zre_tables.proofs.ListedRows.{at_row, at_none}
use Rattle.zre_tables.proofs.OffersByLinks.{one_offered, none_offered}
use Rattle.zre_tables.proofs.offers.offer_each.Goals as goal
use Rattle.zre_tables.proofs.offers.offer_each.Goals.{then-is_offered+in_ok-push, else-is_offered}

pub loop-link-preserved-in_default : goal.loop-link-preserved-in_default
loop-link-preserved-in_default c =
    none_offered c.args.rows.now.all.items c.args.links.now c.loop-link.link-index _ c.args.acts.now c.loop-link.acts (take_more c.args.links.now c.loop-link.link-index 0 c.loop-link-test.true)
    (at_none row_offered c.args.rows.now.all.items _ c.in_default.ensures) c.loop-link.invariant

pub loop-link-preserved : goal.loop-link-preserved
loop-link-preserved c =
    let es = c.args.rows.now.all.items in
    let ks = c.args.links.now in
    let i = c.loop-link.link-index in
    let more = take_more ks i 0 c.loop-link-test.true in
    elim c.if-is_offered.branch [
      | then-is_offered+in_ok-push w ↦ rw w.acts-is (one_offered es ks i _ c.args.acts.now c.loop-link.acts w.push.new.self c.loop-link-test.true more
          (at_row row_offered es _ c.in-Some.peer.now c.in-Some.ensures true (sym c.is_offered.ensures ∙ w.if-is_offered.true)) w.in_ok-push.ensures.ok c.loop-link.invariant)
      | else-is_offered w ↦ rw w.acts-is (none_offered es ks i _ c.args.acts.now c.loop-link.acts more
          (at_row row_offered es _ c.in-Some.peer.now c.in-Some.ensures false (sym c.is_offered.ensures ∙ w.if-is_offered.false)) c.loop-link.invariant)
    ]
