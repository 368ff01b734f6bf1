use Rattle.std.proofs.Common.{Result, Ok, Err, OnOk, IfErr, sym, subst}
use Rattle.zre_msg.specs.declared.message.Body.TheVariants.{Ping}
use Rattle.zre_tables.proofs.ChangedRows.{same, there}
use Rattle.zre_tables.specs.Probing.{IsTold}
use Rattle.zre_tables.specs.declared.peer.Peer.{Peer}
use Rattle.zre_tables.proofs.RowsInOrder.{lies}
use Rattle.zre_tables.proofs.LentRows.{put_or_refused, relinked_agrees}
use Rattle.zre_tables.proofs.peers.Peers.probe.Goals as goal

on_any_ok : {A E P : Type 0} (r : Result A E) → P → OnOk r P
on_any_ok (Ok x) p = p
on_any_ok (Err e) p = tt

on_any_err : {A E : Type 0} {P : E → Type 0} (r : Result A E) → ((e : E) → P e) → IfErr r P
on_any_err (Ok x) p = tt
on_any_err (Err e) p = p e

pub returns-clause-ok : goal.returns-clause-ok
returns-clause-ok c =
    let it = lies c.self.inside.rows.all.items c.args.link c.in-Some.at c.index_mut.result.now c.self.invariant.rising c.in-Some.ensures c.index_mut.ensures.value in
    (put_or_refused c.args.link c.in-Some.at c.self.inside.rows.all.items c.index_mut.result.now it c.args.self.now c.self.view_is c.push_ping.new.self c.push_ping.result Ping c.push_ping.ensures.ok c.push_ping.ensures.refused c.push_ping.ensures.unchanged).0

pub returns-clause-refused : goal.returns-clause-refused
returns-clause-refused c =
    let it = lies c.self.inside.rows.all.items c.args.link c.in-Some.at c.index_mut.result.now c.self.invariant.rising c.in-Some.ensures c.index_mut.ensures.value in
    (put_or_refused c.args.link c.in-Some.at c.self.inside.rows.all.items c.index_mut.result.now it c.args.self.now c.self.view_is c.push_ping.new.self c.push_ping.result Ping c.push_ping.ensures.ok c.push_ping.ensures.refused c.push_ping.ensures.unchanged).1

pub returns-clause-unchanged : goal.returns-clause-unchanged
returns-clause-unchanged c =
    let it = lies c.self.inside.rows.all.items c.args.link c.in-Some.at c.index_mut.result.now c.self.invariant.rising c.in-Some.ensures c.index_mut.ensures.value in
    (put_or_refused c.args.link c.in-Some.at c.self.inside.rows.all.items c.index_mut.result.now it c.args.self.now c.self.view_is c.push_ping.new.self c.push_ping.result Ping c.push_ping.ensures.ok c.push_ping.ensures.refused c.push_ping.ensures.unchanged).2

pub invariant_of-self-2 : goal.invariant_of-self-2
invariant_of-self-2 c =
    let it = lies c.self.inside.rows.all.items c.args.link c.in-Some.at c.index_mut.result.now c.self.invariant.rising c.in-Some.ensures c.index_mut.ensures.value in
    relinked_agrees c.args.link c.in-Some.at c.self.inside.rows.all.items c.index_mut.result.now it c.push_ping.new.self _ _ c.self.invariant

pub returns-clause-told : goal.returns-clause-told
returns-clause-told c = λ x at.
    let it = lies c.self.inside.rows.all.items c.args.link c.in-Some.at c.index_mut.result.now c.self.invariant.rising c.in-Some.ensures c.index_mut.ensures.value in
    let e = same c.args.link c.self.inside.rows.all.items c.args.self.now c.self.view_is c.index_mut.result.now.1 (sym it.there_is) x at in
    on_any_ok c.push_ping.result (subst (λ (y : Peer). IsTold y c.args.events.now c.tell_evasive.new.events) e c.in_ok-tell_evasive.ensures)

pub returns-clause-told_first : goal.returns-clause-told_first
returns-clause-told_first c = λ x at.
    let it = lies c.self.inside.rows.all.items c.args.link c.in-Some.at c.index_mut.result.now c.self.invariant.rising c.in-Some.ensures c.index_mut.ensures.value in
    let e = same c.args.link c.self.inside.rows.all.items c.args.self.now c.self.view_is c.index_mut.result.now.1 (sym it.there_is) x at in
    on_any_err c.push_ping.result (λ f unsent size is. subst (λ (y : Peer). IsTold y c.args.events.now c.tell_evasive.new.events) e c.in_ok-tell_evasive.ensures)

pub returns-clause-missing : goal.returns-clause-missing
returns-clause-missing c = λ none.
    let it = lies c.self.inside.rows.all.items c.args.link c.in-Some.at c.index_mut.result.now c.self.invariant.rising c.in-Some.ensures c.index_mut.ensures.value in
    there c.args.link c.self.inside.rows.all.items c.args.self.now c.self.view_is c.index_mut.result.now.1 (sym it.there_is) none

pub returns-in_err-tell_evasive-clause-missing : goal.returns-in_err-tell_evasive-clause-missing
returns-in_err-tell_evasive-clause-missing c = λ none.
    let it = lies c.self.inside.rows.all.items c.args.link c.in-Some.at c.index_mut.result.now c.self.invariant.rising c.in-Some.ensures c.index_mut.ensures.value in
    there c.args.link c.self.inside.rows.all.items c.args.self.now c.self.view_is c.index_mut.result.now.1 (sym it.there_is) none
