use Rattle.std.proofs.Common.{◌+◌, drop, subst}
use Rattle.zre_tables.proofs.RowsInOrder.{next_of}
use Rattle.zre_tables.proofs.OffersByWalk.{Left, first_left, idle_left}
use Rattle.zre_tables.proofs.searches.update.Goals as goal
use Rattle.zre_tables.proofs.searches.update.Goals.{in-Some+in_ok-update_one, in_default, then-next-links+then-links-next+in_ok-update_one-2, else-next-links}

pub loop-due-preserved : goal.loop-due-preserved
loop-due-preserved c = λ r a. elim c.match-get.branch [
  | in-Some+in_ok-update_one w ↦ rw w.heard-is (w.update_one.ensures c.args.rows.now.all.items r w.in-Some.ensures (c.loop-due.invariant r a))
  | in_default w ↦ rw w.heard-is (c.loop-due.invariant r a)
]

pub loop-link-preserved : goal.loop-link-preserved
loop-link-preserved c =
    let es = c.args.rows.now.all.items in
    let i = c.loop-link.link-index in
    let e = c.loop-link-item.result in
    let rest = drop (i + 1) es in
    let left = subst (Left es) (next_of c.deref-link-items.result.now es i e c.deref-link-items.ensures.value c.loop-link-test.true c.loop-link-item.is) c.loop-link.invariant.1 in
    let inv = c.loop-link.invariant in (
      elim c.if-next-links.branch [
        | then-next-links+then-links-next+in_ok-update_one-2 w ↦ rw w.heard-is (λ r a. w.update_one-then-links-next.ensures es r (first_left es e rest left) (inv.0 r a))
        | else-next-links w ↦ rw w.heard-is inv.0
      ],
      idle_left es e rest left,
    )

pub returns-in_err-update_one-2 : goal.returns-in_err-update_one-2
returns-in_err-update_one-2 c = λ r a.
    let es = c.args.rows.now.all.items in
    let i = c.loop-link.link-index in
    let e = c.loop-link-item.result in
    let rest = drop (i + 1) es in
    let left = subst (Left es) (next_of c.deref-link-items.result.now es i e c.deref-link-items.ensures.value c.loop-link-test.true c.loop-link-item.is) c.loop-link.invariant.1 in
    c.update_one-then-links-next.ensures es r (first_left es e rest left) (c.loop-link.invariant.0 r a)
