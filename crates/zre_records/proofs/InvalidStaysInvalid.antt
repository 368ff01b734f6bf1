-- What is refused however it goes on is refused with whatever follows.
use Rattle.std.proofs.Common.{◌≡◌, ℕ, true, is_some, List, ◌++◌}
use Rattle.zre_capture.specs.Journal.{bad, bad_at_end}
use Rattle.zre_capture.specs.declared.format.Format.{Format}
use Rattle.zre_capture.proofs.BadStaysBad.{bad_stays}
use Rattle.zre_commands.specs.pump.Meaning.{KeepsRefusing}
use Rattle.zre_records.specs.audit.Audit as audits
use Rattle.zre_records.specs.simulate.Simulate as simulates
use Rattle.zre_records.proofs.audit.AuditorAtEnd as auditing
use Rattle.zre_records.proofs.audit.AuditorAtEnd.{or_there}

-- of two captures
pub audit_refuses : KeepsRefusing audits.audit
audit_refuses = auditing.audit_refuses

-- of a schedule, which is read whole first
pub simulate_refuses : KeepsRefusing simulates.simulate
simulate_refuses o x e = absurd cc

-- of a capture with a bad line
pub capture_refuses : (f : Format) (o x : List ℕ) → is_some (bad f o) ≡ true → is_some (bad_at_end f (o ++ x)) ≡ true
capture_refuses f o x e = or_there (bad f (o ++ x)) _ (bad_stays f o x e)
