use Rattle.std.proofs.Common.{ℕ, ◌∷◌, max, ap, sym, ◌∙◌, subst}
use Rattle.zre_journal.specs.Chronicle.{Comes}
use Rattle.zre_node.specs.Stands.{Holds}
use Rattle.zre_node.proofs.EntriesThatCome.{ok_of, at_ok, heard_it}
use Rattle.zre_node.specs.Said.{said_in}
use Rattle.zre_node.proofs.LooksOfEntries.{heard_looks}
use Rattle.zre_node.proofs.tables.Tables.come_piece.Goals as goal

pub returns-clause-came : goal.returns-clause-came
returns-clause-came over c = λ g H e at_is is h.
    let t = c.args.self.now in
    let now = ap (λ (m : ℕ). max m t.clock) at_is ∙ sym c.max-self.ensures in
    ok_of _ c.feed.result (λ fault ok.
    let both = heard_it g H t h e c.args.piece.now.from c.args.piece.now.bytes.now is c.feed.new.self (said_in c.feed.new.items fault)
    (λ x own o row conn. at_ok _ c.feed.result fault ok (c.feed.ensures.live x own o row conn)) (λ none. (c.feed.ensures.no_reader none).0) in
    (subst (λ (m : ℕ). Holds g (Comes e ∷ H) (record t { clock = m; conns = c.feed.new.self })) now both.0, both.1))

pub returns-clause-looks : goal.returns-clause-looks
returns-clause-looks over c = λ g H e is h.
    heard_looks g H c.args.self.now h e c.args.piece.now.from c.args.piece.now.bytes.now is c.feed.result c.args.steps.now c.feed.new.steps c.feed.ensures.looks (λ none. (c.feed.ensures.no_reader none).3)
