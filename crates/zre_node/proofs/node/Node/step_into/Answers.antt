use Rattle.zre_values.proofs.AnswersThatAreOk.{on_ok}
use Rattle.zre_node.proofs.OneEntryOfNode.{keeps_its_ledgers}
use Rattle.zre_node.proofs.node.Node.step_into.Goals as goal

pub returns-clause-ledgers : goal.returns-clause-ledgers
returns-clause-ledgers c = λ g J s.
    on_ok c.step_from.result (c.step_from.ensures.steps g J s) (λ w. keeps_its_ledgers g J c.args.entry _ _ w)
