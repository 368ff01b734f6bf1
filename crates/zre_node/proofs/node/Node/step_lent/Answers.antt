use Rattle.std.proofs.Common.{arith, sym, ap, ◌∙◌}
use Rattle.zre_journal.specs.Events.{chronicle}
use Rattle.zre_node.specs.Kinds.{piece_entry}
use Rattle.zre_node.specs.declared.node.Node.{Node}
use Rattle.zre_node.proofs.LooksOfEntries.{kept_happened, idle_lowers}
use Rattle.zre_node.proofs.OneEntryOfNode.{finished, begun, took_nothing}
use Rattle.zre_node.proofs.node.Node.step_lent.Goals as goal
use Rattle.zre_node.proofs.node.Node.step_lent.Goals.{then-not-self+in_ok-take_piece, else-not-self}

pub returns-clause-steps : goal.returns-clause-steps
returns-clause-steps over c = λ g J s.
    let H = chronicle g J in
    let e = piece_entry c.args.piece.now.at c.args.piece.now.from c.args.piece.now.bytes.now in
    let b = c.begin.new.self in
    let is = c.in_ok-begin.ensures.ok.1 in
    let st = begun g H c.args.self.now b is s.stands in
    finished g J e c.if-not-self.self c.finish.new.self c.finish.new.step b.effects c.finish.ensures.node c.finish.ensures.step
    (ap (λ (n : Node). n.effects.events) is) (ap (λ (n : Node). n.effects.acts) is)
    (elim c.if-not-self.branch [
      | then-not-self+in_ok-take_piece w ↦ rw w.self-is (w.in_ok-take_piece.ensures.took g H (ap (λ (n : Node). n.effects.pushed) is) (st.going (sym st.stopped ∙ w.if-not-self.true)))
      | else-not-self w ↦ rw w.self-is (took_nothing g e H b.tables b.effects (sym st.stopped ∙ w.if-not-self.false) st)
    ])

pub returns-clause-looks : goal.returns-clause-looks
returns-clause-looks over c = λ g J s.
    let H = chronicle g J in
    let e = piece_entry c.args.piece.now.at c.args.piece.now.from c.args.piece.now.bytes.now in
    let b = c.begin.new.self in
    let st = begun g H c.args.self.now b c.in_ok-begin.ensures.ok.1 s.stands in
    elim c.if-not-self.branch [
      | then-not-self+in_ok-take_piece w ↦ rw w.steps-is (omega (arith, (w.in_ok-take_piece.ensures.looks g H (st.going (sym st.stopped ∙ w.if-not-self.true))).0, kept_happened g J e), tt)
      | else-not-self w ↦ rw w.steps-is (omega (arith, idle_lowers g e H b.tables (st.resting (sym st.stopped ∙ w.if-not-self.false)), kept_happened g J e), tt)
    ]

pub returns-clause-once : goal.returns-clause-once
returns-clause-once over c =
    elim c.if-not-self.branch [
      | then-not-self+in_ok-take_piece w ↦ rw w.steps-is w.in_ok-take_piece.ensures.once
      | else-not-self w ↦ rw w.steps-is (omega arith)
    ]
