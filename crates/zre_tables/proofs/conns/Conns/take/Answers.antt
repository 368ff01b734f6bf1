use Rattle.std.proofs.Common.{◌≡◌, ℕ, Some, Result, Ok, Err, IfOk, refl, sym, ap, ◌∙◌, subst}
use Rattle.std.proofs.lemmas.Result.{IfOk-weaker}
use Rattle.std.specs.Option.{option_and_then}
use Rattle.zre_values.specs.declared.memory.OutOfMemory.{OutOfMemory}
use Rattle.zre_zmtp.specs.Looks.{Looks, IsPaid, IsPaidOnRefusal}
use Rattle.zre_mailbox.specs.Conn.{ConnHearing, held_of}
use Rattle.zre_tables.specs.Holding.{reader_at}
use Rattle.zre_tables.specs.declared.connection.Connection.{Connection}
use Rattle.zre_tables.proofs.SumsAgreeWithRows.{some_is}
use Rattle.zre_tables.proofs.ChangedRows.{same, put_back, put_same}
use Rattle.zre_tables.proofs.LentPieces.{row_takes, taken_looks}
use Rattle.zre_tables.proofs.RowsInOrder.{lies}
use Rattle.zre_tables.proofs.IdleConnections.{put_kept}
use Rattle.zre_tables.proofs.conns.Conns.take.Goals as goal

pub returns-in_default-conn-clause-live : goal.returns-in_default-conn-clause-live
returns-in_default-conn-clause-live g c = λ x own o at is.
    let es = c.self.inside.rows.all.items in
    let row = c.index_mut.result.now in
    let it = lies es c.args.conn c.in-Some.at row c.self.invariant.0 c.in-Some.ensures c.index_mut.ensures.value in
    let e = same c.args.conn es c.args.self.now c.self.view_is row.1 (sym it.there_is) x at in
    let no = sym c.in_default-conn.is ∙ ap (λ (k : Connection). k.conn) e ∙ is in
    absurd cc

pub returns-in_default-conn-clause-other : goal.returns-in_default-conn-clause-other
returns-in_default-conn-clause-other g c = λ e.
    let es = c.self.inside.rows.all.items in
    let row = c.index_mut.result.now in
    let it = lies es c.args.conn c.in-Some.at row c.self.invariant.0 c.in-Some.ensures c.index_mut.ensures.value in
    (put_same c.args.conn es c.args.self.now c.self.view_is row.1 (sym it.there_is) row.1 _ (it.set row.1) refl, refl)

pub returns-in_default-conn-clause-no_reader : goal.returns-in_default-conn-clause-no_reader
returns-in_default-conn-clause-no_reader g c = λ none.
    let es = c.self.inside.rows.all.items in
    let row = c.index_mut.result.now in
    let it = lies es c.args.conn c.in-Some.at row c.self.invariant.0 c.in-Some.ensures c.index_mut.ensures.value in
    (put_same c.args.conn es c.args.self.now c.self.view_is row.1 (sym it.there_is) row.1 _ (it.set row.1) refl, refl, refl)

pub invariant_of-self-2 : goal.invariant_of-self-2
invariant_of-self-2 g c = put_kept c.self.inside.first c.args.conn c.in-Some.at c.self.inside.rows.all.items c.index_mut.result.now c.self.invariant.0 c.in-Some.ensures c.index_mut.ensures.value (record c.index_mut.result.now.1 { conn = Some c.lend.new.conn }) refl refl c.self.invariant.1

pub returns-clause-live : goal.returns-clause-live
returns-clause-live g c = λ x own o at is.
    let es = c.self.inside.rows.all.items in
    let row = c.index_mut.result.now in
    let it = lies es c.args.conn c.in-Some.at row c.self.invariant.0 c.in-Some.ensures c.index_mut.ensures.value in
    let e = same c.args.conn es c.args.self.now c.self.view_is row.1 (sym it.there_is) x at in
    let here = some_is _ _ (sym c.in-Some-conn.is ∙ ap (λ (k : Connection). k.conn) e ∙ is) in
    let w = record row.1 { conn = Some c.lend.new.conn } in
    IfOk-weaker c.lend.result _ _ (λ came t. row_takes came c.args.conn x own o c.args.bytes.now _ c.lend.new.conn c.args.self.now _
    (λ q. put_back c.args.conn es c.args.self.now c.self.view_is row.1 (sym it.there_is) w _ (it.set w) _ (ap (λ (k : Connection). record k { conn = Some c.lend.new.conn }) e ∙ ap (λ (h : ConnHearing). record x { conn = Some h }) q))
    (λ q. put_same c.args.conn es c.args.self.now c.self.view_is row.1 (sym it.there_is) w _ (it.set w) (ap (λ (h : ConnHearing). record row.1 { conn = Some h }) q ∙ ap (λ k. record row.1 { conn = k }) (sym c.in-Some-conn.is))) t)
    (c.lend.ensures.taken own o here)

pub returns-clause-other : goal.returns-clause-other
returns-clause-other g c = λ z.
    let es = c.self.inside.rows.all.items in
    let row = c.index_mut.result.now in
    let it = lies es c.args.conn c.in-Some.at row c.self.invariant.0 c.in-Some.ensures c.index_mut.ensures.value in
    let w = record row.1 { conn = Some c.lend.new.conn } in
    let q = c.lend.ensures.other z in
    (put_same c.args.conn es c.args.self.now c.self.view_is row.1 (sym it.there_is) w _ (it.set w) (ap (λ (h : ConnHearing). record row.1 { conn = Some h }) q.0 ∙ ap (λ k. record row.1 { conn = k }) (sym c.in-Some-conn.is)), q.1)

pub returns-clause-looks : goal.returns-clause-looks
returns-clause-looks g c = λ own o at taken.
    let es = c.self.inside.rows.all.items in
    let row = c.index_mut.result.now in
    let it = lies es c.args.conn c.in-Some.at row c.self.invariant.0 c.in-Some.ensures c.index_mut.ensures.value in
    let here = some_is _ _ (sym c.in-Some-conn.is ∙ ap (option_and_then (λ (k : Connection). k.conn)) (sym it.there_is) ∙ ap (reader_at c.args.conn) c.self.view_is ∙ at) in
    taken_looks c.lend.result own o c.args.bytes.now _ c.lend.new.conn _ _ here (c.lend.ensures.taken own o here) taken (c.lend.ensures.looks own o here taken)

pub returns-clause-no_reader : goal.returns-clause-no_reader
returns-clause-no_reader g c = λ none.
    let es = c.self.inside.rows.all.items in
    let row = c.index_mut.result.now in
    let it = lies es c.args.conn c.in-Some.at row c.self.invariant.0 c.in-Some.ensures c.index_mut.ensures.value in
    let no = sym c.in-Some-conn.is ∙ ap (option_and_then (λ (k : Connection). k.conn)) (sym it.there_is) ∙ ap (reader_at c.args.conn) c.self.view_is ∙ none in
    absurd cc
