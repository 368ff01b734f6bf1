use Rattle.std.proofs.Math.Logic.{∥∥₁_map}
use Rattle.zre_gate.proofs.GatheredClients.{not_closed, has_closed}
use Rattle.zre_gate.proofs.closer.close_after.Goals as goal

pub returns-then-was_over-clause-closes : goal.returns-then-was_over-clause-closes
returns-then-was_over-clause-closes g c = λ client_list first gathers there known.
    ∥∥₁_map (gathers there known) (λ gs. not_closed _ _ _ _ _ _ _ gs)

pub returns-clause-closes : goal.returns-clause-closes
returns-clause-closes g c = λ client_list first gathers there known.
    ∥∥₁_map (gathers there known) (λ gs. has_closed _ _ _ _ _ _ _ gs c.close.result c.if-was_over.false c.close.ensures.closes)
