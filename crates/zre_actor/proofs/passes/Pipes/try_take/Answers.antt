use Rattle.std.proofs.Common.{subst, sym}
use Rattle.crossbeam_channel.specs.Claims.{IsSeatAt}
use Rattle.zre_actor.proofs.EventPipeInvariant.{receives}
use Rattle.zre_actor.proofs.passes.Pipes.try_take.Goals as goal

pub try_recv_as-requires-clause-channel : goal.try_recv_as-requires-clause-channel
try_recv_as-requires-clause-channel g c = subst (λ ring. IsSeatAt ring c.args.pass.events) (sym c.args.self.now.one_channel) c.requires.pipes

pub try_recv_as-requires-clause-rule : goal.try_recv_as-requires-clause-rule
try_recv_as-requires-clause-rule g c = (receives _ _ c.args.pass.takes, λ items views h at. tt)
