use Rattle.std.proofs.Common.{◌≡◌, sym, ap, ◌∙◌, subst}
use Rattle.zre_values.proofs.AnswersThatAreOk.{on_ok}
use Rattle.zre_outside.specs.declared.entry.Entry.{Entry}
use Rattle.zre_outside.specs.declared.entry.Input.{Input}
use Rattle.zre_outside.specs.declared.entry.Input.TheVariants as input
use Rattle.zre_node.specs.Journal.{IsStep}
use Rattle.zre_node.specs.Kinds.{piece_entry}
use Rattle.zre_node.proofs.OneEntryOfNode.{keeps_its_ledgers}
use Rattle.zre_node.proofs.node.Node.step_into_counted.Goals as goal

pub returns-in-Piece-clause-ledgers : goal.returns-in-Piece-clause-ledgers
returns-in-Piece-clause-ledgers over c = λ g J s.
    let e : Entry = c.args.entry in
    let is : e.input ≡ input.Piece c.in-Piece.conn c.as_slice.result.now = c.in-Piece.is ∙ ap (λ o. input.Piece c.in-Piece.conn o) (sym c.as_slice.ensures) in
    let same : piece_entry e.at c.in-Piece.conn c.as_slice.result.now ≡ e = ap (λ (i : Input). record { at = e.at; input = i }) (sym is) in
    on_ok c.step_lent.result (c.step_lent.ensures.steps g J s)
    (λ w. keeps_its_ledgers g J e c.step_lent.new.self c.step_lent.new.step (subst (λ (x : Entry). IsStep g J x c.step_lent.new.self c.step_lent.new.step) same w))

pub returns-in_default-clause-ledgers : goal.returns-in_default-clause-ledgers
returns-in_default-clause-ledgers over c = λ g J s.
    on_ok c.step_other.result (c.step_other.ensures.steps g J s) (λ w. keeps_its_ledgers g J c.args.entry c.step_other.new.self c.step_other.new.step w)
