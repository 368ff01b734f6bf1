use Rattle.std.proofs.Common.{◌≡◌, List, arith, ◌∷◌, refl, sym, ap, ◌∙◌}
use Rattle.zre_zmtp.specs.declared.item.Item.{Item}
use Rattle.zre_journal.specs.Arrivals.{at_places}
use Rattle.zre_journal.specs.Chronicle.{Comes}
use Rattle.zre_journal.specs.Happens.{at_input, with_entry}
use Rattle.zre_journal.specs.Held.{kept}
use Rattle.zre_values.proofs.AnswersThatAreOk.{on_ok}
use Rattle.zre_node.specs.Brings.{octets_of}
use Rattle.zre_node.specs.Kinds.{piece_entry}
use Rattle.zre_node.specs.Said.{said_in}
use Rattle.zre_node.proofs.LooksOfEntries.{less_looks, entry_lowers, err_looks}
use Rattle.zre_node.proofs.MarksAfterMarks.{did_as}
use Rattle.zre_node.proofs.WholeEntries.{piece_marks, unnamed_piece, took}
use Rattle.zre_node.proofs.tables.Tables.take_fed.Goals as goal

pub returns-clause-took : goal.returns-clause-took
returns-clause-took over c = λ g H none h.
    let p = c.args.piece.now in
    let e = piece_entry p.at p.from p.bytes.now in
    let K = Comes e ∷ H in
    let came = c.in_ok-fault.ensures.came g H e refl refl h in
    let said = c.in_ok-said.ensures g K came.0 in
    let d = did_as g (at_input g e.input H K) _ K c.said.new.self c.args.out.now c.said.new.out
    (piece_marks g e H p.from p.bytes.now refl ∙ sym came.1 ∙ ap (λ (is : List Item). at_places g p.from (said_in is c.in_ok-fault.fault) K) (sym c.as_slice.ensures)) said in
    on_ok c.offer.result (c.offer.ensures g _ d.holds) (λ o. took g e H c.said.new.self c.args.out.now c.said.new.out c.offer.new.out h.keeps.going (unnamed_piece e p.from p.bytes.now refl) none d o)

pub returns-in_err-fault-clause-looks : goal.returns-in_err-fault-clause-looks
returns-in_err-fault-clause-looks over c = λ g H h.
    let p = c.args.piece.now in
    let e = piece_entry p.at p.from p.bytes.now in
    err_looks _ c.from_residual.result c.from_residual.ensures.1 c.args.steps.now c.come_piece.new.steps (kept g H) (kept g (with_entry g e H)) (octets_of e.input)
    (c.in_err-fault.ensures.looks g H e refl h).1

pub returns-in_err-said-clause-looks : goal.returns-in_err-said-clause-looks
returns-in_err-said-clause-looks over c = λ g H h.
    let p = c.args.piece.now in
    let e = piece_entry p.at p.from p.bytes.now in
    err_looks _ c.from_residual-in_err-said.result c.from_residual-in_err-said.ensures.1 c.args.steps.now c.come_piece.new.steps (kept g H) (kept g (with_entry g e H)) (octets_of e.input)
    (omega (arith, (c.in_ok-fault.ensures.looks g H e refl h).0))

pub returns-clause-looks : goal.returns-clause-looks
returns-clause-looks over c = λ g H h.
    let p = c.args.piece.now in
    let e = piece_entry p.at p.from p.bytes.now in
    less_looks c.offer.result c.args.steps.now c.come_piece.new.steps (kept g H) (kept g (with_entry g e H)) (kept g (Comes e ∷ H)) (octets_of e.input)
    (entry_lowers g e H h.keeps.going h.keeps.proper) (omega (arith, (c.in_ok-fault.ensures.looks g H e refl h).0))
