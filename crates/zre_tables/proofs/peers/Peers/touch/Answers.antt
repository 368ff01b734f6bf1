use Rattle.std.proofs.Common.{ap, sym, ◌∙◌}
use Rattle.zre_tables.specs.declared.peer.Peer.{Peer}
use Rattle.zre_tables.proofs.ChangedRows.{put_back, same, there}
use Rattle.zre_tables.proofs.RowsInOrder.{lies}
use Rattle.zre_tables.proofs.LentRows.{renewed}
use Rattle.zre_tables.proofs.peers.Peers.touch.Goals as goal

pub invariant_of-self : goal.invariant_of-self
invariant_of-self c =
    let i = c.self.inside in
    let w = c.renew-self-inside.new.peer in
    let it = lies c.self.inside.rows.all.items c.args.link c.in-Some.at c.index_mut.result.now c.self.invariant.rising c.in-Some.ensures c.index_mut.ensures.value in
    renewed c.args.link c.in-Some.at c.self.inside.rows.all.items c.index_mut.result.now it w i.heard i.rewound c.renew-self-inside.result c.args.now (ap (λ (y : Peer). y.active) c.renew-self-inside.ensures.only) c.renew-self-inside.ensures.back c.self.invariant

pub returns-clause-found : goal.returns-clause-found
returns-clause-found c = λ x at.
    let w = c.renew-self-inside.new.peer in
    let it = lies c.self.inside.rows.all.items c.args.link c.in-Some.at c.index_mut.result.now c.self.invariant.rising c.in-Some.ensures c.index_mut.ensures.value in
    let e = same c.args.link c.self.inside.rows.all.items c.args.self.now c.self.view_is c.index_mut.result.now.1 (sym it.there_is) x at in
    put_back c.args.link c.self.inside.rows.all.items c.args.self.now c.self.view_is c.index_mut.result.now.1 (sym it.there_is) w _ (it.set w) _ (c.renew-self-inside.ensures.only ∙ ap (λ (y : Peer). record y { active = c.args.now }) e)

pub returns-clause-missing : goal.returns-clause-missing
returns-clause-missing c = λ none.
    let it = lies c.self.inside.rows.all.items c.args.link c.in-Some.at c.index_mut.result.now c.self.invariant.rising c.in-Some.ensures c.index_mut.ensures.value in
    there c.args.link c.self.inside.rows.all.items c.args.self.now c.self.view_is c.index_mut.result.now.1 (sym it.there_is) none
