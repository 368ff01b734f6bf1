use Rattle.std.proofs.Common.{◌∙◌, Option, Some, sym, ap, subst}
use Rattle.zre_values.proofs.AnswersThatAreOk.{on_ok}
use Rattle.zre_tables.specs.Runs.{HasRun}
use Rattle.zre_tables.specs.declared.peer.Peer.{Peer}
use Rattle.zre_tables.specs.declared.peer.CarriedRun.{CarriedRun}
use Rattle.zre_tables.proofs.RunsOfRows.{of_err}
use Rattle.zre_tables.proofs.ChangedRows.{there}
use Rattle.zre_tables.proofs.RowsInOrder.{lies}
use Rattle.zre_tables.proofs.LentRows.{renewed, reran}
use Rattle.zre_tables.proofs.peers.Peers.take.Goals as goal

pub invariant_of-self : goal.invariant_of-self
invariant_of-self c =
    let i = c.self.inside in
    let w = c.take.new.peer in
    let it = lies c.self.inside.rows.all.items c.args.link c.in-Some.at c.index_mut.result.now c.self.invariant.rising c.in-Some.ensures c.index_mut.ensures.value in
    renewed c.args.link c.in-Some.at c.self.inside.rows.all.items c.index_mut.result.now it w i.heard i.rewound c.renew-self-inside.result c.args.now (ap (λ (y : Peer). y.active) c.take.ensures.only ∙ ap (λ (y : Peer). y.active) c.renew-self-inside.ensures.only) c.renew-self-inside.ensures.back c.self.invariant

pub returns-clause-ok : goal.returns-clause-ok
returns-clause-ok c = λ x n id ms at runs.
    let it = lies c.self.inside.rows.all.items c.args.link c.in-Some.at c.index_mut.result.now c.self.invariant.rising c.in-Some.ensures c.index_mut.ensures.value in
    let ran = reran c.args.link c.in-Some.at c.self.inside.rows.all.items c.index_mut.result.now it c.args.self.now c.self.view_is _ c.take.new.peer x c.args.now c.renew-self-inside.ensures.only c.take.ensures.only at in
    on_ok c.take.result (c.take.ensures.ok n id ms (subst (λ (o : Option CarriedRun). HasRun (Some n) id ms o) (sym ran.0) runs)) (λ a. (a.0, a.2, record { run = c.take.new.peer.run; its_run = a.1; rows = ran.1 }))

pub returns-clause-refused : goal.returns-clause-refused
returns-clause-refused c = λ x n id ms at runs.
    let it = lies c.self.inside.rows.all.items c.args.link c.in-Some.at c.index_mut.result.now c.self.invariant.rising c.in-Some.ensures c.index_mut.ensures.value in
    let ran = reran c.args.link c.in-Some.at c.self.inside.rows.all.items c.index_mut.result.now it c.args.self.now c.self.view_is _ c.take.new.peer x c.args.now c.renew-self-inside.ensures.only c.take.ensures.only at in
    of_err c.take.result (c.take.ensures.refused n id ms (subst (λ (o : Option CarriedRun). HasRun (Some n) id ms o) (sym ran.0) runs)) (λ f a other.
    let b = a other in
    (b.0, b.1, b.3, record { run = c.take.new.peer.run; its_run = b.2; rows = ran.1 }))

pub returns-clause-missing : goal.returns-clause-missing
returns-clause-missing c = λ none.
    let it = lies c.self.inside.rows.all.items c.args.link c.in-Some.at c.index_mut.result.now c.self.invariant.rising c.in-Some.ensures c.index_mut.ensures.value in
    there c.args.link c.self.inside.rows.all.items c.args.self.now c.self.view_is c.index_mut.result.now.1 (sym it.there_is) none
