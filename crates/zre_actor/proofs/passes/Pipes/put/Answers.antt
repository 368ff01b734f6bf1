use Rattle.std.proofs.Common.{subst, sym}
use Rattle.zre_actor.specs.Commands.{IsCaller}
use Rattle.crossbeam_queue.specs.Passes.{view}
use Rattle.zre_actor.proofs.CommandPipeInvariant.{pushes}
use Rattle.zre_actor.proofs.CallersStay.{caller_wrote}
use Rattle.zre_actor.proofs.passes.Pipes.put.Goals as goal

pub push_as-requires-clause-rule : goal.push_as-requires-clause-rule
push_as-requires-clause-rule g c = (pushes _ _ _ _ _ c.args.pass.is_caller.1, λ items views h at. tt)

pub invariant_of-result : goal.invariant_of-result
invariant_of-result g c = record { is_caller = subst IsCaller (sym c.in-Ok.ensures.rule) (caller_wrote (view c.args.pass.commands) c.args.command c.args.pass.is_caller) }
