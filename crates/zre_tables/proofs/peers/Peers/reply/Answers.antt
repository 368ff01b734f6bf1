use Rattle.std.proofs.Common.{true, ap, ◌∙◌, sym}
use Rattle.std.proofs.lemmas.Result.{IfOk-weaker}
use Rattle.zre_link.specs.Link.{link_after, link_answering}
use Rattle.zre_tables.specs.declared.peer.Peer.{Peer}
use Rattle.zre_tables.proofs.ChangedRows.{there, same, paid_as}
use Rattle.zre_tables.proofs.RowsInOrder.{lies}
use Rattle.zre_tables.proofs.LentRows.{relinked_agrees, relinked, still_linked, its_link}
use Rattle.zre_tables.proofs.peers.Peers.reply.Goals as goal

pub returns-clause-standing : goal.returns-clause-standing
returns-clause-standing g c = λ x own line o n at is.
    let it = lies c.self.inside.rows.all.items c.args.link c.in-Some.at c.index_mut.result.now c.self.invariant.rising c.in-Some.ensures c.index_mut.ensures.value in
    IfOk-weaker c.hear_reply.result _ _ (λ why a. (relinked c.args.link c.in-Some.at c.self.inside.rows.all.items c.index_mut.result.now it c.args.self.now c.self.view_is c.hear_reply.new.link x (link_after own line true o n) (link_answering own line true o n c.args.bytes.now) (λ z. a.0) at is, a.1))
    (c.hear_reply.ensures.standing own line o n (its_link c.args.link c.in-Some.at c.self.inside.rows.all.items c.index_mut.result.now it c.args.self.now c.self.view_is x _ at is))

pub returns-clause-waiting : goal.returns-clause-waiting
returns-clause-waiting g c = λ x at is.
    let it = lies c.self.inside.rows.all.items c.args.link c.in-Some.at c.index_mut.result.now c.self.invariant.rising c.in-Some.ensures c.index_mut.ensures.value in
    let e = same c.args.link c.self.inside.rows.all.items c.args.self.now c.self.view_is c.index_mut.result.now.1 (sym it.there_is) x at in
    IfOk-weaker c.hear_reply.result _ _ (λ why a. (still_linked c.args.link c.in-Some.at c.self.inside.rows.all.items c.index_mut.result.now it c.args.self.now c.self.view_is c.hear_reply.new.link a.0, a.1)) (c.hear_reply.ensures.waiting (ap (λ (y : Peer). y.link.linked) e ∙ is))

pub returns-clause-looks : goal.returns-clause-looks
returns-clause-looks g c = λ x own line linked o n at is.
    let k = c.index_mut.result.now.1 in
    let it = lies c.self.inside.rows.all.items c.args.link c.in-Some.at c.index_mut.result.now c.self.invariant.rising c.in-Some.ensures c.index_mut.ensures.value in
    paid_as _ _ c.hear_reply.result own line linked o n c.args.bytes.now k.link c.hear_reply.new.link c.args.steps.now c.hear_reply.new.steps
    (its_link c.args.link c.in-Some.at c.self.inside.rows.all.items c.index_mut.result.now it c.args.self.now c.self.view_is x _ at is) (c.hear_reply.ensures.standing own line o n) c.hear_reply.ensures.waiting c.hear_reply.ensures.looks

pub invariant_of-self : goal.invariant_of-self
invariant_of-self g c =
    let it = lies c.self.inside.rows.all.items c.args.link c.in-Some.at c.index_mut.result.now c.self.invariant.rising c.in-Some.ensures c.index_mut.ensures.value in
    relinked_agrees c.args.link c.in-Some.at c.self.inside.rows.all.items c.index_mut.result.now it c.hear_reply.new.link _ _ c.self.invariant

pub returns-clause-missing : goal.returns-clause-missing
returns-clause-missing g c = λ none.
    let it = lies c.self.inside.rows.all.items c.args.link c.in-Some.at c.index_mut.result.now c.self.invariant.rising c.in-Some.ensures c.index_mut.ensures.value in
    there c.args.link c.self.inside.rows.all.items c.args.self.now c.self.view_is c.index_mut.result.now.1 (sym it.there_is) none
