use Rattle.std.proofs.Common.{arith, sym, ap, ◌∙◌}
use Rattle.zre_journal.specs.Events.{chronicle}
use Rattle.zre_node.specs.declared.node.Node.{Node}
use Rattle.zre_node.proofs.LooksOfEntries.{kept_happened, idle_lowers}
use Rattle.zre_node.proofs.OneEntryOfNode.{finished, begun, took_nothing}
use Rattle.zre_node.proofs.node.Node.step_other.Goals as goal
use Rattle.zre_node.proofs.node.Node.step_other.Goals.{then-self, else-self+in_ok-take_other}

pub returns-clause-steps : goal.returns-clause-steps
returns-clause-steps over c = λ g J s.
    let H = chronicle g J in
    let e = c.args.entry in
    let b = c.begin.new.self in
    let is = c.in-Ok.ensures.ok.1 in
    let st = begun g H c.args.self.now b is s.stands in
    finished g J e c.if-self.self c.finish.new.self c.finish.new.step b.effects c.finish.ensures.node c.finish.ensures.step
    (ap (λ (n : Node). n.effects.events) is) (ap (λ (n : Node). n.effects.acts) is)
    (elim c.if-self.branch [
      | then-self w ↦ rw w.self-is (took_nothing g e H b.tables b.effects (sym st.stopped ∙ w.if-self.true) st)
      | else-self+in_ok-take_other w ↦ rw w.self-is (w.in_ok-take_other.ensures.took g H (ap (λ (n : Node). n.effects.pushed) is) (st.going (sym st.stopped ∙ w.if-self.false)))
    ])

pub returns-clause-looks : goal.returns-clause-looks
returns-clause-looks over c = λ g J s.
    let H = chronicle g J in
    let e = c.args.entry in
    let b = c.begin.new.self in
    let st = begun g H c.args.self.now b c.in-Ok.ensures.ok.1 s.stands in
    elim c.if-self.branch [
      | then-self w ↦ rw w.steps-is (omega (arith, idle_lowers g e H b.tables (st.resting (sym st.stopped ∙ w.if-self.true)), kept_happened g J e), tt)
      | else-self+in_ok-take_other w ↦ rw w.steps-is (omega (arith, (w.in_ok-take_other.ensures.looks g H (st.going (sym st.stopped ∙ w.if-self.false))).0, kept_happened g J e), tt)
    ]

pub returns-clause-once : goal.returns-clause-once
returns-clause-once over c =
    elim c.if-self.branch [
      | then-self w ↦ rw w.steps-is (omega arith)
      | else-self+in_ok-take_other w ↦ rw w.steps-is w.in_ok-take_other.ensures.once
    ]
