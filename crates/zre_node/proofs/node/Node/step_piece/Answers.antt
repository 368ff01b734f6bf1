use Rattle.zre_values.proofs.AnswersThatAreOk.{on_ok}
use Rattle.zre_node.specs.Kinds.{piece_entry}
use Rattle.zre_node.proofs.OneEntryOfNode.{keeps_its_ledgers}
use Rattle.zre_node.proofs.node.Node.step_piece.Goals as goal

pub returns-clause-ledgers : goal.returns-clause-ledgers
returns-clause-ledgers c = λ g J s.
    let e = piece_entry c.args.at c.args.conn c.args.bytes.now in
    on_ok c.step_lent_from.result (c.step_lent_from.ensures.steps g J s) (λ w. keeps_its_ledgers g J e _ _ w)
