use Rattle.std.proofs.Common.{◌++◌, take, ap, ◌∙◌, List, append_assoc}
use Rattle.std.specs.Prelude.{option_to_list}
use Rattle.zre_mailbox.specs.declared.arrival.Arrival.{Arrival}
use Rattle.zre_mailbox.specs.Talk.{arrival_of, arrivals_in}
use Rattle.zre_mailbox.proofs.ConnAfterOctets.{arrives_next}
use Rattle.zre_mailbox.proofs.taking.take_items.Goals as goal

pub loop-item-preserved : goal.loop-item-preserved
loop-item-preserved c =
    let items = c.args.items.now in
    let i = c.loop-item.item-index in
    let came = option_to_list (arrival_of c.item-item.result.what) in
    c.in_ok-take_item.ensures ∙ ap (λ (l : List Arrival). l ++ came) c.loop-item.invariant
    ∙ append_assoc c.args.out.now (arrivals_in (take i items)) came
    ∙ ap (λ (l : List Arrival). c.args.out.now ++ l) (arrives_next items i c.item-item.result c.loop-item-test.true c.item-item.is)
