use Rattle.std.proofs.Common.{sym, ◌∙◌}
use Rattle.zre_node.proofs.MarksOfCommands.{unknown, has_row, entered_by, not_entered}
use Rattle.zre_node.proofs.tables.Tables.entered.Goals as goal

pub returns-in_default : goal.returns-in_default
returns-in_default c = λ g K h. unknown g K c.args.self.now h c.args.id c.in_default.ensures

pub returns-in_default-get : goal.returns-in_default-get
returns-in_default-get c = λ g K h. has_row g K c.args.self.now h c.args.id c.in-Some.link c.in-Some.ensures c.in_default-get.ensures.value

pub returns-then-not-is_entered : goal.returns-then-not-is_entered
returns-then-not-is_entered c = λ g K h.
    not_entered g K c.args.self.now h c.args.id c.in-Some.link c.in-Some.ensures c.in-Some-get.peer.now c.in-Some-get.ensures.value (sym c.is_entered.ensures ∙ c.if-not-is_entered.true)

pub returns : goal.returns
returns c = λ g K h.
    let r = entered_by g K c.args.self.now h c.args.id c.in-Some.link c.in-Some.ensures c.in-Some-get.peer.now c.in-Some-get.ensures.value in
    (r.0, r.1, r.2 ∙ sym c.is_entered.ensures ∙ c.if-not-is_entered.false, r.3)
