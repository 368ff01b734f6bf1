use Rattle.std.proofs.Common.{subst, sym, ap, ◌∙◌}
use Rattle.crossbeam_channel.specs.Claims.{IsSeatAt}
use Rattle.zre_actor.specs.declared.views.EventView.{EventView}
use Rattle.zre_actor.proofs.EventPipeInvariant.{receives}
use Rattle.zre_actor.proofs.passes.Pipes.take.Goals as goal

pub recv_as-requires-clause-channel : goal.recv_as-requires-clause-channel
recv_as-requires-clause-channel g c = subst (λ ring. IsSeatAt ring c.loop.events) (sym c.args.self.now.one_channel) c.loop.invariant.0

pub recv_as-requires-clause-rule : goal.recv_as-requires-clause-rule
recv_as-requires-clause-rule g c = (receives _ _ (ap (λ (v : EventView). v.takes) c.loop.invariant.1 ∙ c.args.pass.takes), λ items views h at. tt)
