use Rattle.std.proofs.Common.{◌≡◌, ℕ, ◌∷◌, refl, sym, ap, subst, ◌∙◌, Ok, arith}
use Rattle.zre_zmtp.specs.Looks.{Looks}
use Rattle.zre_zmtp.specs.declared.bodies.Came.TheVariants as came
use Rattle.zre_journal.specs.Chronicle.{Comes}
use Rattle.zre_journal.specs.Happens.{at_input, with_entry}
use Rattle.zre_journal.specs.Held.{kept}
use Rattle.zre_values.proofs.AnswersThatAreOk.{on_ok}
use Rattle.zre_node.specs.Brings.{octets_of}
use Rattle.zre_node.specs.Kinds.{piece_entry}
use Rattle.zre_node.specs.Said.{ComesLent}
use Rattle.zre_node.specs.Stands.{Holds}
use Rattle.zre_node.specs.declared.tables.Tables.{Tables}
use Rattle.zre_node.proofs.LentPieces.{message_taken, part_taken}
use Rattle.zre_node.proofs.LooksOfEntries.{less_looks, entry_lowers, err_looks}
use Rattle.zre_node.proofs.MarksAfterMarks.{did_as, idle_did}
use Rattle.zre_node.proofs.WholeEntries.{piece_marks, unnamed_piece, took}
use Rattle.zre_node.proofs.tables.Tables.take_piece.Goals as goal

pub returns-in_err-bodies-clause-looks : goal.returns-in_err-bodies-clause-looks
returns-in_err-bodies-clause-looks over c = λ g H h.
    let p = c.args.piece.now in
    let e = piece_entry p.at p.from p.bytes.now in
    err_looks _ c.from_residual.result c.from_residual.ensures.1 c.args.steps.now c.come_lent.new.steps (kept g H) (kept g (with_entry g e H)) (octets_of e.input)
    (c.in_err-bodies.ensures.looks g H e refl h (λ z. cc)).1

pub returns-in_err-said_lent-in-Message-clause-looks : goal.returns-in_err-said_lent-in-Message-clause-looks
returns-in_err-said_lent-in-Message-clause-looks over c = λ g H h.
    let p = c.args.piece.now in
    let e = piece_entry p.at p.from p.bytes.now in
    let paid = c.in_ok-bodies.ensures.looks g H e refl h (message_taken _ _ c.in-Message.is) in
    err_looks _ c.from_residual-in_err-said_lent-in-Message.result c.from_residual-in_err-said_lent-in-Message.ensures.1 c.args.steps.now c.come_lent.new.steps (kept g H) (kept g (with_entry g e H)) (octets_of e.input)
    (omega (arith, paid.0))

pub returns-in_ok-said_lent-in-Message-clause-took : goal.returns-in_ok-said_lent-in-Message-clause-took
returns-in_ok-said_lent-in-Message-clause-took over c = λ g H none h.
    let p = c.args.piece.now in
    let e = piece_entry p.at p.from p.bytes.now in
    let K = Comes e ∷ H in
    let came : ComesLent (came.Message c.in-Message.bodies) g H e p.from c.args.self.now c.come_lent.new.self =
    subst (λ k. ComesLent k g H e p.from c.args.self.now c.come_lent.new.self) c.in-Message.is (c.in_ok-bodies.ensures.came g H e refl refl h) in
    let d = did_as g (at_input g e.input H K) _ K c.said_lent.new.self c.args.out.now c.said_lent.new.out
    (piece_marks g e H p.from p.bytes.now refl ∙ sym came.1) (c.in_ok-said_lent-in-Message.ensures g K came.0) in
    on_ok c.offer.result (c.offer.ensures g _ d.holds)
    (λ o. took g e H c.said_lent.new.self c.args.out.now c.said_lent.new.out c.offer.new.out h.keeps.going (unnamed_piece e p.from p.bytes.now refl) none d o)

pub returns-in_ok-said_lent-in-Message-clause-looks : goal.returns-in_ok-said_lent-in-Message-clause-looks
returns-in_ok-said_lent-in-Message-clause-looks over c = λ g H h.
    let p = c.args.piece.now in
    let e = piece_entry p.at p.from p.bytes.now in
    let paid = c.in_ok-bodies.ensures.looks g H e refl h (message_taken _ _ c.in-Message.is) in
    less_looks c.offer.result c.args.steps.now c.come_lent.new.steps (kept g H) (kept g (with_entry g e H)) (kept g (Comes e ∷ H)) (octets_of e.input)
    (entry_lowers g e H h.keeps.going h.keeps.proper) (omega (arith, paid.0))

pub returns-in-Part-clause-took : goal.returns-in-Part-clause-took
returns-in-Part-clause-took over c = λ g H none h.
    let p = c.args.piece.now in
    let e = piece_entry p.at p.from p.bytes.now in
    let K = Comes e ∷ H in
    let came : ComesLent came.Part g H e p.from c.args.self.now c.come_lent.new.self =
    subst (λ k. ComesLent k g H e p.from c.args.self.now c.come_lent.new.self) c.in-Part.is (c.in_ok-bodies.ensures.came g H e refl refl h) in
    let d = did_as g (at_input g e.input H K) _ K c.come_lent.new.self c.args.out.now c.args.out.now
    (piece_marks g e H p.from p.bytes.now refl ∙ sym came.1) (idle_did g K c.come_lent.new.self c.args.out.now came.0) in
    on_ok c.offer-in-Part.result (c.offer-in-Part.ensures g _ d.holds)
    (λ o. took g e H c.come_lent.new.self c.args.out.now c.args.out.now c.offer-in-Part.new.out h.keeps.going (unnamed_piece e p.from p.bytes.now refl) none d o)

pub returns-in-Part-clause-looks : goal.returns-in-Part-clause-looks
returns-in-Part-clause-looks over c = λ g H h.
    let p = c.args.piece.now in
    let e = piece_entry p.at p.from p.bytes.now in
    let paid = c.in_ok-bodies.ensures.looks g H e refl h (part_taken _ c.in-Part.is) in
    less_looks c.offer-in-Part.result c.args.steps.now c.come_lent.new.steps (kept g H) (kept g (with_entry g e H)) (kept g (Comes e ∷ H)) (octets_of e.input)
    (entry_lowers g e H h.keeps.going h.keeps.proper) (omega (arith, paid.0))

pub returns-in-Other-clause-took : goal.returns-in-Other-clause-took
returns-in-Other-clause-took over c = λ g H none h.
    let p = c.args.piece.now in
    let e = piece_entry p.at p.from p.bytes.now in
    let same : c.come_lent.new.self ≡ c.args.self.now = subst (λ k. ComesLent k g H e p.from c.args.self.now c.come_lent.new.self) c.in-Other.is (c.in_ok-bodies.ensures.came g H e refl refl h) in
    c.take_fed.ensures.took g H none (subst (λ (t : Tables). Holds g H t) (sym same) h)

pub returns-in-Other-clause-looks : goal.returns-in-Other-clause-looks
returns-in-Other-clause-looks over c = λ g H h.
    let p = c.args.piece.now in
    let e = piece_entry p.at p.from p.bytes.now in
    let same : c.come_lent.new.self ≡ c.args.self.now = subst (λ k. ComesLent k g H e p.from c.args.self.now c.come_lent.new.self) c.in-Other.is (c.in_ok-bodies.ensures.came g H e refl refl h) in
    let none : c.come_lent.new.steps ≡ c.args.steps.now = c.in_ok-bodies.ensures.other (ap (λ x. Ok x) c.in-Other.is) in
    subst (λ (s : ℕ). Looks s c.take_fed.new.steps (kept g H) (kept g (with_entry g e H)) (octets_of e.input) c.take_fed.result) none
    (c.take_fed.ensures.looks g H (subst (λ (t : Tables). Holds g H t) (sym same) h))

pub returns-in-Other-clause-once : goal.returns-in-Other-clause-once
returns-in-Other-clause-once over c = omega (arith, c.in_ok-bodies.ensures.other (ap (λ x. Ok x) c.in-Other.is), c.take_fed.ensures.once)
