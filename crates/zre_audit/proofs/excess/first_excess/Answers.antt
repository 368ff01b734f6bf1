use Rattle.std.proofs.Common.{ℕ, List, Bor, map, nat_eq, sym, ◌∙◌}
use Rattle.zre_audit.specs.Prefixes.{begun}
use Rattle.zre_audit.proofs.FirstTooMany.{one_here, none_here, in_any_order}
use Rattle.zre_audit.proofs.excess.first_excess.Goals as goal

pub returns-then-fewer-more : goal.returns-then-fewer-more
returns-then-fewer-more c =
    let now : Bor (List ℕ) → List ℕ = λ r. r.now in
    let x = c.index-lists-place.result in
    let more = c.count_begun-more.ensures ∙ (λ i. begun nat_eq (c.as_slice-in-loop-place.ensures i) (map now (c.as_slice.ensures.value i))) in
    let fewer = c.count_begun-fewer.ensures ∙ (λ i. begun nat_eq (c.as_slice-in-loop-place-3.ensures i) (map now (c.as_slice-in-loop-place-2.ensures.value i))) in
    sym (one_here c.args.lists.now c.args.others.now c.loop-place.place x c.count_begun-more.result c.count_begun-fewer.result c.loop-place-test.true c.index-lists-place.is
    (in_any_order x c.args.lists.now (map now c.in_ok-rising_lists.rising_lists.items) c.count_begun-more.result c.in_ok-rising_lists.ensures more)
    (in_any_order x c.args.others.now (map now c.in_ok-rising_others.rising_others.items) c.count_begun-fewer.result c.in_ok-rising_others.ensures fewer)
    c.if-fewer-more.true c.loop-place.invariant)

pub loop-place-preserved : goal.loop-place-preserved
loop-place-preserved c =
    let now : Bor (List ℕ) → List ℕ = λ r. r.now in
    let x = c.index-lists-place.result in
    let more = c.count_begun-more.ensures ∙ (λ i. begun nat_eq (c.as_slice-in-loop-place.ensures i) (map now (c.as_slice.ensures.value i))) in
    let fewer = c.count_begun-fewer.ensures ∙ (λ i. begun nat_eq (c.as_slice-in-loop-place-3.ensures i) (map now (c.as_slice-in-loop-place-2.ensures.value i))) in
    none_here c.args.lists.now c.args.others.now c.loop-place.place x c.count_begun-more.result c.count_begun-fewer.result c.loop-place-test.true c.index-lists-place.is
    (in_any_order x c.args.lists.now (map now c.in_ok-rising_lists.rising_lists.items) c.count_begun-more.result c.in_ok-rising_lists.ensures more)
    (in_any_order x c.args.others.now (map now c.in_ok-rising_others.rising_others.items) c.count_begun-fewer.result c.in_ok-rising_others.ensures fewer)
    c.if-fewer-more.false c.loop-place.invariant
