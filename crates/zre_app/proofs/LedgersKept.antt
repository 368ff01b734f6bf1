-- The journals whose events a call writes keep their ledgers.
use Rattle.std.specs.Prelude.{Option, Some}
use Rattle.zre_capture.specs.Journal.{journal}
use Rattle.zre_capture.specs.declared.format.Format.TheVariants.{First, Second}
use Rattle.zre_journal.proofs.NearMessages.{keeps_ledgers}
use Rattle.zre_app.specs.Does.{KeepsItsLedgers}
use Rattle.zre_app.specs.declared.command.Command.{Command}
use Rattle.zre_app.specs.declared.command.Command.TheVariants as commands
use Rattle.zre_app.specs.declared.plain_words.Plain.TheVariants.{Replay, ReplayTold}

pub keeps_its_ledgers : (c : Option Command) → KeepsItsLedgers c
keeps_its_ledgers (Some (commands.Plain (Replay g))) = λ o. keeps_ledgers g (journal First o)
keeps_its_ledgers (Some (commands.Plain ReplayTold)) = λ o s is. keeps_ledgers s (journal Second o)
keeps_its_ledgers (Some (commands.Chat c)) = λ entries. keeps_ledgers c.config entries
keeps_its_ledgers _ = tt
