use Rattle.zre_actor.proofs.CommandPipeInvariant.{forks}
use Rattle.zre_actor.proofs.passes.make.new_caller.Goals as goal

pub another-caller-requires-clause-rule : goal.another-caller-requires-clause-rule
another-caller-requires-clause-rule c = forks _ _
