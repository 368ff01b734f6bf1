use Rattle.zre_actor.proofs.CommandPipeInvariant.{pops}
use Rattle.zre_actor.proofs.passes.Pipes.pop.Goals as goal

pub pop_as-found-requires-clause-rule : goal.pop_as-found-requires-clause-rule
pop_as-found-requires-clause-rule g c = (pops _ _ c.args.pass.is_actor.0, λ items views h at. tt)
