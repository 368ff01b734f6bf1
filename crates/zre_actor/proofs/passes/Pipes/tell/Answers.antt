use Rattle.std.proofs.Common.{ap, ◌∙◌}
use Rattle.zre_actor.specs.declared.views.EventView.{EventView}
use Rattle.zre_actor.proofs.EventPipeInvariant.{sends}
use Rattle.zre_actor.proofs.passes.Pipes.tell.Goals as goal

pub send_as-requires-clause-channel : goal.send_as-requires-clause-channel
send_as-requires-clause-channel g c = c.loop.invariant.0

pub send_as-requires-clause-rule : goal.send_as-requires-clause-rule
send_as-requires-clause-rule g c = (
  sends _ _ _ _ (ap (λ (v : EventView). v.raises) c.loop.invariant.1 ∙ c.requires.open.0) (ap (λ (v : EventView). v.ended_by) c.loop.invariant.1 ∙ c.requires.open.1),
  λ items views h at. tt,
)
