use Rattle.std.proofs.Common.{sym, subst}
use Rattle.zre_actor.specs.Passes.{IsCallerOf}
use Rattle.zre_gate.specs.Gathering.{IsClientList}
use Rattle.zre_gate.proofs.closer.CloserJobJob.run.Goals as goal

pub gather-gathered-requires-clause-client_list : goal.gather-gathered-requires-clause-client_list
gather-gathered-requires-clause-client_list g c = subst (λ p. ∥ IsClientList g.B.GateName.client_list p ∥₁) (sym c.deref.ensures) c.args.self.client_list

pub returns : goal.returns
returns g c = (
  subst (λ p. IsCallerOf p c.close_after.result.pass) c.deref-2.ensures c.close_after.ensures.pipes,
  c.close_after.ensures.closes g.B.GateName.client_list c.args.self.pass c.gather-gathered.ensures.gathers,
)
