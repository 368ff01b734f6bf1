use Rattle.std.proofs.Common.{[], refl}
use Rattle.std.proofs.KnownBytes.{Appends-nil}
use Rattle.zre_commands.proofs.pump.pumping.PumpText.tell.Goals as goal

pub returns-in_default-clause-told : goal.returns-in_default-clause-told
returns-in_default-clause-told g c = λ o h going.
    let l = c.in_default.ensures.longer o in
    record { added = l.0; longer = l.1; appended = ([], l.0, refl, Appends-nil _) }
