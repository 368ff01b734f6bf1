use Rattle.std.proofs.Common.{◌≡◌, ◌∙◌, true, subst, ap}
use Rattle.std.specs.Prelude.{IfSome, Err}
use Rattle.std.specs.Str.{is_utf8}
use Rattle.std.proofs.lemmas.Str.{IsUtf8-from_is_utf8}
use Rattle.zre_commands.specs.declared.pump.status.Status.TheVariants.{WriteFault}
use Rattle.zre_console.proofs.PreparingFailed.{refused_early}
use Rattle.zre_console.proofs.StatusIsFirstFailure.{fault_yields, write_unread}
use Rattle.zre_console.proofs.keeping.begin.Goals as goal

pub unreachable-requires : goal.unreachable-requires
unreachable-requires g c =
    let text : is_utf8 c.in-Some.name ≡ true = subst (λ k. IfSome k (λ name. is_utf8 name ≡ true)) c.in-Some.is c.requires in
    c.in_default-from_utf8.ensures.cases.0 (IsUtf8-from_is_utf8 c.as_slice.result.now (ap is_utf8 c.as_slice.ensures ∙ text))

pub returns-clause-refused : goal.returns-clause-refused
returns-clause-refused g c = rw (c.of_fault.ensures) (refused_early WriteFault c.in-Err.fault ⊥ ⊥ _ (λ is. c.in-Err.ensures.failed (ap Err is)))

pub returns-clause-first : goal.returns-clause-first
returns-clause-first g c = rw (c.of_fault.ensures) (fault_yields (Unit {0}) WriteFault c.in-Err.fault _ _ c.in-Err.ensures.counts)

pub returns-clause-unread : goal.returns-clause-unread
returns-clause-unread g c = rw (c.of_fault.ensures) (write_unread c.in-Err.fault)
