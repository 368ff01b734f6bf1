use Rattle.std.proofs.Common.{ℕ, ◌∷◌, length, max, Result, Ok, Err, ap, sym, ◌∙◌, subst}
use Rattle.zre_values.specs.declared.memory.OutOfMemory.{OutOfMemory}
use Rattle.zre_zmtp.specs.declared.bodies.Came.{Came}
use Rattle.zre_zmtp.specs.declared.bodies.Came.TheVariants as came
use Rattle.zre_journal.specs.Chronicle.{Comes}
use Rattle.zre_journal.specs.Held.{kept}
use Rattle.zre_tables.specs.Lending.{said_lent, RowTakes}
use Rattle.zre_node.specs.Stands.{Holds}
use Rattle.zre_node.proofs.EntriesThatCome.{heard_it}
use Rattle.zre_node.proofs.LentPieces.{err_lent}
use Rattle.zre_node.proofs.LooksOfEntries.{heard_looks}
use Rattle.zre_node.proofs.tables.Tables.come_lent.Goals as goal

pub returns-in-Message-clause-came : goal.returns-in-Message-clause-came
returns-in-Message-clause-came over c = λ g H e at_is is h.
    let t = c.args.self.now in
    let p = c.args.piece in
    let now = ap (λ (m : ℕ). max m t.clock) at_is ∙ sym c.max-self.ensures in
    let both = heard_it g H t h e p.from p.bytes.now is c.take.new.self (said_lent (came.Message c.in-Message.lent))
    (λ x own o row conn. subst (λ k. RowTakes k p.from x own o p.bytes.now t.conns c.take.new.self) c.in-Message.is (c.in_ok-lent.ensures.live x own o row conn)) (λ none. (c.in_ok-lent.ensures.no_reader none).0) in
    (subst (λ (m : ℕ). Holds g (Comes e ∷ H) (record t { clock = m; conns = c.take.new.self })) now both.0, both.1)

pub returns-in-Message-clause-looks : goal.returns-in-Message-clause-looks
returns-in-Message-clause-looks over c = λ g H e is h ne.
    let p = c.args.piece in
    let r : Result Came OutOfMemory = Ok (came.Message c.in-Message.lent) in
    heard_looks g H c.args.self.now h e p.from p.bytes.now is r c.args.steps.now c.take.new.steps
    (λ own q at. c.in_ok-lent.ensures.looks own q at (λ z. ne (ap (λ x. Ok x) (sym c.in-Message.is) ∙ z))) (λ none. (c.in_ok-lent.ensures.no_reader none).2)

pub returns-in-Part-clause-came : goal.returns-in-Part-clause-came
returns-in-Part-clause-came over c = λ g H e at_is is h.
    let t = c.args.self.now in
    let p = c.args.piece in
    let now = ap (λ (m : ℕ). max m t.clock) at_is ∙ sym c.max-self-in-Part.ensures in
    let both = heard_it g H t h e p.from p.bytes.now is c.take.new.self (said_lent came.Part)
    (λ x own o row conn. subst (λ k. RowTakes k p.from x own o p.bytes.now t.conns c.take.new.self) c.in-Part.is (c.in_ok-lent.ensures.live x own o row conn)) (λ none. (c.in_ok-lent.ensures.no_reader none).0) in
    (subst (λ (m : ℕ). Holds g (Comes e ∷ H) (record t { clock = m; conns = c.take.new.self })) now both.0, both.1)

pub returns-in-Part-clause-looks : goal.returns-in-Part-clause-looks
returns-in-Part-clause-looks over c = λ g H e is h ne.
    let p = c.args.piece in
    let r : Result Came OutOfMemory = Ok came.Part in
    heard_looks g H c.args.self.now h e p.from p.bytes.now is r c.args.steps.now c.take.new.steps
    (λ own q at. c.in_ok-lent.ensures.looks own q at (λ z. ne (ap (λ x. Ok x) (sym c.in-Part.is) ∙ z))) (λ none. (c.in_ok-lent.ensures.no_reader none).2)

pub returns-in_err-lent-clause-looks : goal.returns-in_err-lent-clause-looks
returns-in_err-lent-clause-looks over c = λ g H e is h ne.
    let p = c.args.piece in
    let r : Result Came OutOfMemory = Err c.in_err-lent.field-0.0 in
    let all = heard_looks g H c.args.self.now h e p.from p.bytes.now is r c.args.steps.now c.take.new.steps
    (λ own q at. c.in_err-lent.ensures.looks own q at (λ z. cc)) (λ none. (c.in_err-lent.ensures.no_reader none).2) in
    err_lent c.from_residual.result c.args.steps.now c.take.new.steps (kept g H) (kept g (Comes e ∷ H)) (length p.bytes.now) c.from_residual.ensures.0 all.1
