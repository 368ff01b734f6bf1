use Rattle.std.proofs.Common.{◌≡◌, ℕ, Some, Result, Ok, Err, IfOk, refl, sym, ap, ◌∙◌, subst}
use Rattle.std.proofs.lemmas.Result.{IfOk-weaker}
use Rattle.std.specs.Option.{option_and_then}
use Rattle.zre_values.specs.declared.memory.OutOfMemory.{OutOfMemory}
use Rattle.zre_zmtp.specs.Looks.{Looks, IsPaid, IsPaidOnRefusal}
use Rattle.zre_mailbox.specs.Conn.{ConnHearing, held_of}
use Rattle.zre_tables.specs.Holding.{reader_at}
use Rattle.zre_tables.specs.declared.connection.Connection.{Connection}
use Rattle.zre_tables.proofs.SumsAgreeWithRows.{some_is}
use Rattle.zre_tables.proofs.ChangedRows.{same, put_back, put_same}
use Rattle.zre_tables.proofs.RowsInOrder.{lies}
use Rattle.zre_tables.proofs.IdleConnections.{put_kept}
use Rattle.zre_tables.proofs.conns.Conns.feed.Goals as goal

-- the same looks, of octets that are kept by another name
looks_as : {A : Type 0} (r : Result A OutOfMemory) (looks looks' a a' b b' n : ℕ) → a ≡ a' → IfOk r (λ x. b ≡ b') → Looks looks looks' a b n r → Looks looks looks' a' b' n r
looks_as (Ok x) looks looks' a a' b b' n e f p = (subst (λ k. IsPaid looks looks' k b' n) e (subst (λ k. IsPaid looks looks' a k n) f p.0), p.1)
looks_as (Err e) looks looks' a a' b b' n q f p = (p.0, subst (λ k. IsPaidOnRefusal looks looks' k n) q p.1)

pub returns-in_default-conn-clause-live : goal.returns-in_default-conn-clause-live
returns-in_default-conn-clause-live g c = λ x own o at is.
    let es = c.self.inside.rows.all.items in
    let row = c.index_mut.result.now in
    let it = lies es c.args.conn c.in-Some.at row c.self.invariant.0 c.in-Some.ensures c.index_mut.ensures.value in
    let e = same c.args.conn es c.args.self.now c.self.view_is row.1 (sym it.there_is) x at in
    let no = sym c.in_default-conn.is ∙ ap (λ (k : Connection). k.conn) e ∙ is in
    absurd cc

pub returns-in_default-conn-clause-looks : goal.returns-in_default-conn-clause-looks
returns-in_default-conn-clause-looks g c = λ own o at.
    let es = c.self.inside.rows.all.items in
    let row = c.index_mut.result.now in
    let it = lies es c.args.conn c.in-Some.at row c.self.invariant.0 c.in-Some.ensures c.index_mut.ensures.value in
    let no = sym c.in_default-conn.is ∙ ap (option_and_then (λ (k : Connection). k.conn)) (sym it.there_is) ∙ ap (reader_at c.args.conn) c.self.view_is ∙ at in
    absurd cc

pub returns-in_default-conn-clause-no_reader : goal.returns-in_default-conn-clause-no_reader
returns-in_default-conn-clause-no_reader g c = λ none.
    let es = c.self.inside.rows.all.items in
    let row = c.index_mut.result.now in
    let it = lies es c.args.conn c.in-Some.at row c.self.invariant.0 c.in-Some.ensures c.index_mut.ensures.value in
    (put_same c.args.conn es c.args.self.now c.self.view_is row.1 (sym it.there_is) row.1 _ (it.set row.1) refl, c.requires, refl, refl)

pub invariant_of-self-2 : goal.invariant_of-self-2
invariant_of-self-2 g c = put_kept c.self.inside.first c.args.conn c.in-Some.at c.self.inside.rows.all.items c.index_mut.result.now c.self.invariant.0 c.in-Some.ensures c.index_mut.ensures.value (record c.index_mut.result.now.1 { conn = Some c.read.new.conn }) refl refl c.self.invariant.1

pub returns-clause-live : goal.returns-clause-live
returns-clause-live g c = λ x own o at is.
    let es = c.self.inside.rows.all.items in
    let row = c.index_mut.result.now in
    let it = lies es c.args.conn c.in-Some.at row c.self.invariant.0 c.in-Some.ensures c.index_mut.ensures.value in
    let e = same c.args.conn es c.args.self.now c.self.view_is row.1 (sym it.there_is) x at in
    let here = some_is _ _ (sym c.in-Some-conn.is ∙ ap (λ (k : Connection). k.conn) e ∙ is) in
    let w = record row.1 { conn = Some c.read.new.conn } in
    IfOk-weaker c.read.result _ _ (λ fault a. (
      put_back c.args.conn es c.args.self.now c.self.view_is row.1 (sym it.there_is) w _ (it.set w) _
          (ap (λ (k : Connection). record k { conn = Some c.read.new.conn }) e ∙ ap (λ (h : ConnHearing). record x { conn = Some h }) a.0),
      a.1,
    )) (c.read.ensures.heard own o here)

pub returns-clause-looks : goal.returns-clause-looks
returns-clause-looks g c = λ own o at.
    let es = c.self.inside.rows.all.items in
    let row = c.index_mut.result.now in
    let it = lies es c.args.conn c.in-Some.at row c.self.invariant.0 c.in-Some.ensures c.index_mut.ensures.value in
    let here = some_is _ _ (sym c.in-Some-conn.is ∙ ap (option_and_then (λ (k : Connection). k.conn)) (sym it.there_is) ∙ ap (reader_at c.args.conn) c.self.view_is ∙ at) in
    looks_as c.read.result _ _ _ _ _ _ _ (ap held_of here) (IfOk-weaker c.read.result _ _ (λ fault a. ap held_of a.0) (c.read.ensures.heard own o here)) (c.read.ensures.looks own o here)

pub returns-clause-no_reader : goal.returns-clause-no_reader
returns-clause-no_reader g c = λ none.
    let es = c.self.inside.rows.all.items in
    let row = c.index_mut.result.now in
    let it = lies es c.args.conn c.in-Some.at row c.self.invariant.0 c.in-Some.ensures c.index_mut.ensures.value in
    let no = sym c.in-Some-conn.is ∙ ap (option_and_then (λ (k : Connection). k.conn)) (sym it.there_is) ∙ ap (reader_at c.args.conn) c.self.view_is ∙ none in
    absurd cc
