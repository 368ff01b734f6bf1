-- What `audit` writes of two captures that aren't refused.
use Rattle.std.proofs.Common.{◌≡◌, ℕ, false, List, Option, Some, None, refl, sym, ap, ◌∙◌, subst}
use Rattle.std.specs.Prelude.{◌↔◌, is_some, codes}
use Rattle.zre_audit.specs.Agreement.{Agree, judged}
use Rattle.zre_audit.specs.Lines.{line}
use Rattle.zre_audit.proofs.RunsHaveLinks.{yes_is_written}
use Rattle.zre_capture.specs.Journal.{journal, settings}
use Rattle.zre_capture.specs.declared.fault.BadCapture.{BadCapture}
use Rattle.zre_capture.specs.declared.format.Format.TheVariants.{Second}
use Rattle.zre_outside.specs.declared.entry.Entry.{Entry}
use Rattle.zre_values.specs.declared.settings.Settings.{Settings}
use Rattle.zre_commands.specs.pump.Meaning.{whole_text}
use Rattle.zre_records.specs.audit.Audit.{audit, earlier, later, judgement, place, verdict}
use Rattle.zre_records.specs.replay.Capture.{refusal_or}
use Rattle.zre_records.specs.Laws.{AuditsSayYes}

none_bad : (b : Option BadCapture) → is_some b ≡ false → b ≡ None
none_bad None e = refl
none_bad (Some b) e = absurd cc

pub says_yes : AuditsSayYes
says_yes o s t good first second = subst (λ (x : List ℕ). (x ≡ codes "AUDIT yes\n") ↔ Agree s t J K) (sym written) (yes_is_written s t J K)
  where
    J : List Entry
    J = journal Second (earlier o)

    K : List Entry
    K = journal Second (later o)

    written : whole_text audit o ≡ line (judged s t J K)
    written =
        ap (λ (b : Option BadCapture). refusal_or b (verdict o)) (none_bad (place o) good)
        ∙ ap (λ (x : Option Settings). judgement x (settings Second (later o)) J K) first
        ∙ ap (λ (x : Option Settings). judgement (Some s) x J K) second
