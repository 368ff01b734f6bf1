use Rattle.std.proofs.Common.{◌∙◌, true, false, ap}
use Rattle.std.specs.Prelude.{Err}
use mathlib.Core.Logic.{inl}
use Rattle.zre_commands.specs.declared.pump.status.Status.TheVariants.{WorldFault}
use Rattle.zre_console.proofs.PreparingFailed.{refused_early}
use Rattle.zre_console.proofs.StatusIsFirstFailure.{fault_yields, world_unread}
use Rattle.zre_console.proofs.EndBeforeStart.{none_started}
use Rattle.zre_console.proofs.entering.enter.Goals as goal

pub returns-in-Err-clause-refused : goal.returns-in-Err-clause-refused
returns-in-Err-clause-refused g c = rw (c.of_fault.ensures)
    (false, c.in-Err.ensures.refused ∙ none_started (g.W.World.told c.args.world.now), refused_early WorldFault c.in-Err.fault ⊥ _ ⊥ (λ is. c.in-Err.ensures.failed (ap Err is)))

pub returns-in-Err-lay-clause-refused : goal.returns-in-Err-lay-clause-refused
returns-in-Err-lay-clause-refused g c = (true, c.in_default.ensures.told, tt)

pub returns-in-Err-clause-first : goal.returns-in-Err-clause-first
returns-in-Err-clause-first g c = rw (c.of_fault.ensures) (fault_yields (Unit {0}) WorldFault c.in-Err.fault _ _ c.in-Err.ensures.counts)

pub returns-in-Err-clause-unread : goal.returns-in-Err-clause-unread
returns-in-Err-clause-unread g c = rw (c.of_fault.ensures) (world_unread c.in-Err.fault)

pub returns-in-Err-lay-clause-first : goal.returns-in-Err-lay-clause-first
returns-in-Err-lay-clause-first g c = inl c.in_default.ensures.counts
