use Rattle.std.proofs.Common.{true, false, filter, refl, sym, ap, ◌∙◌, take_all}
use Rattle.std.proofs.lemmas.List.{take_more}
use Rattle.zre_tables.specs.Rows.{passes_at}
use Rattle.zre_tables.proofs.ListedRows.{found_more, not_found, at_row, at_none}
use Rattle.zre_tables.proofs.searches.among.Goals as goal
use Rattle.zre_tables.proofs.searches.among.Goals.{then-passes+in_ok-push, else-passes}

pub loop-link-preserved-in_default : goal.loop-link-preserved-in_default
loop-link-preserved-in_default g c = λ test decides.
    not_found test c.args.rows.now.all.items c.args.links.now c.loop-link.link-index _ c.loop-link.found (take_more c.args.links.now c.loop-link.link-index 0 c.loop-link-test.true)
    (at_none test c.args.rows.now.all.items _ c.in_default.ensures) (c.loop-link.invariant test decides)

pub loop-link-preserved : goal.loop-link-preserved
loop-link-preserved g c = λ test decides.
    let es = c.args.rows.now.all.items in
    let ks = c.args.links.now in
    let i = c.loop-link.link-index in
    let more = take_more ks i 0 c.loop-link-test.true in
    let says = sym (decides c.in-Some.peer.now c.passes.result (record { shown = c.in-Some.peer; shows = refl; says = record { met = c.passes.ensures } })) in
    elim c.if-passes.branch [
      | then-passes+in_ok-push w ↦ rw w.found-is (found_more test es ks i _ c.loop-link.found w.push.new.self c.loop-link-test.true more
          (at_row test es _ c.in-Some.peer.now c.in-Some.ensures true (says ∙ w.if-passes.true)) w.in_ok-push.ensures.ok (c.loop-link.invariant test decides))
      | else-passes w ↦ rw w.found-is (not_found test es ks i _ c.loop-link.found more
          (at_row test es _ c.in-Some.peer.now c.in-Some.ensures false (says ∙ w.if-passes.false)) (c.loop-link.invariant test decides))
    ]

pub returns : goal.returns
returns g c = λ test decides.
    c.loop-link.invariant test decides ∙ ap (filter (passes_at test c.args.rows.now.all.items)) (take_all c.loop-link.link-index c.args.links.now c.loop-link-test.false)
