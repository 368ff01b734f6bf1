use Rattle.std.proofs.Common.{◌≡◌, ◌+◌, ◌-◌, ℕ, length, ap, ◌∙◌, arith}
use Rattle.crossbeam_queue.specs.Passes.{view}
use Rattle.zre_actor.specs.declared.views.CommandView.{CommandView}
use Rattle.zre_actor.proofs.CommandPipeInvariant.{begins}
use Rattle.zre_actor.proofs.EventPipeInvariant.{hearing_begins, cuts}
use Rattle.zre_actor.proofs.ConsecutiveNumbers.{length_row}
use Rattle.zre_actor.proofs.passes.Pipes.make.Goals as goal

pub ruled-requires-clause-rule : goal.ruled-requires-clause-rule
ruled-requires-clause-rule c = begins

pub bounded_with-requires-clause-rule : goal.bounded_with-requires-clause-rule
bounded_with-requires-clause-rule c = hearing_begins

pub another-taker-requires-clause-rule : goal.another-taker-requires-clause-rule
another-taker-requires-clause-rule c = cuts _ _ (ap (λ v. v.raises) c.in-Ok-bounded_with.ensures.3) (ap (λ v. v.takes) c.in-Ok-bounded_with.ensures.3)

pub returns-clause-unused : goal.returns-clause-unused
returns-clause-unused c = let n : ℕ = c.args.callers in
    let e : length (view c.new_callers.new.actor).unused ≡ 16 - n = ap (λ (v : CommandView). length v.unused) c.in-Ok.ensures.actor ∙ length_row (1 + n) (16 - n) in omega (arith, c.requires.1)
