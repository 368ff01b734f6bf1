use Rattle.std.proofs.Common.{sym}
use Rattle.zre_tables.proofs.ChangedRows.{there}
use Rattle.zre_tables.proofs.RowsInOrder.{lies}
use Rattle.zre_tables.proofs.LentRows.{relinked, relinked_agrees}
use Rattle.zre_tables.proofs.peers.Peers.took.Goals as goal

pub returns-clause-found : goal.returns-clause-found
returns-clause-found c = λ x own line linked o n.
    let it = lies c.self.inside.rows.all.items c.args.link c.in-Some.at c.index_mut.result.now c.self.invariant.rising c.in-Some.ensures c.index_mut.ensures.value in
    relinked c.args.link c.in-Some.at c.self.inside.rows.all.items c.index_mut.result.now it c.args.self.now c.self.view_is c.took.new.self x _ _ (c.took.ensures own line linked o n)

pub invariant_of-self : goal.invariant_of-self
invariant_of-self c =
    let it = lies c.self.inside.rows.all.items c.args.link c.in-Some.at c.index_mut.result.now c.self.invariant.rising c.in-Some.ensures c.index_mut.ensures.value in
    relinked_agrees c.args.link c.in-Some.at c.self.inside.rows.all.items c.index_mut.result.now it c.took.new.self _ _ c.self.invariant

pub returns-clause-missing : goal.returns-clause-missing
returns-clause-missing c = λ none.
    let it = lies c.self.inside.rows.all.items c.args.link c.in-Some.at c.index_mut.result.now c.self.invariant.rising c.in-Some.ensures c.index_mut.ensures.value in
    there c.args.link c.self.inside.rows.all.items c.args.self.now c.self.view_is c.index_mut.result.now.1 (sym it.there_is) none
