use Rattle.std.proofs.Common.{sym, subst}
use Rattle.std.proofs.Math.Logic.{∥∥₁_map}
use Rattle.zre_actor.specs.Passes.{IsCallerOf}
use Rattle.zre_gate.specs.Gathering.{IsClientList}
use Rattle.zre_gate.proofs.GatheredClients.{not_closed}
use Rattle.zre_gate.proofs.closer.CloserJobExcused.excuse.Goals as goal

pub gather-clients-requires-clause-client_list : goal.gather-clients-requires-clause-client_list
gather-clients-requires-clause-client_list g c = subst (λ p. ∥ IsClientList g.B.GateName.client_list p ∥₁) (sym c.deref.ensures) c.args.self.client_list

pub returns : goal.returns
returns g c = (
  subst (λ p. IsCallerOf p c.gather-clients.result.pass) c.deref.ensures c.gather-clients.ensures.pipes,
  λ there known. ∥∥₁_map (c.gather-clients.ensures.gathers there known) (λ gs. not_closed _ _ _ _ _ _ _ gs),
)
