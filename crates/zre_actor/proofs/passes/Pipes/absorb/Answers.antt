use Rattle.std.proofs.Common.{subst, sym}
use Rattle.zre_actor.specs.Commands.{IsCaller}
use Rattle.crossbeam_queue.specs.Passes.{view}
use Rattle.zre_actor.proofs.CommandPipeInvariant.{merges}
use Rattle.zre_actor.proofs.CallersStay.{caller_joined}
use Rattle.zre_actor.proofs.passes.Pipes.absorb.Goals as goal

pub absorb-requires-clause-rule : goal.absorb-requires-clause-rule
absorb-requires-clause-rule g c = merges _ _ _ _ c.args.other.is_caller.0

pub invariant_of-result : goal.invariant_of-result
invariant_of-result g c = record { is_caller = subst IsCaller (sym c.absorb.ensures.rule) (caller_joined (view c.args.pass.commands) (view c.args.other.commands) c.args.pass.is_caller c.args.other.is_caller) }
