use Rattle.std.proofs.Common.{◌≡◌, ◌≢◌, ◌++◌, refl, sym, ap, ◌∙◌, subst, append-nil, ⊎_elim}
use Rattle.std.specs.Prelude.{All}
use Rattle.std.specs.Io.KnownBytes.{Appends}
use Rattle.zre_outside.specs.Causes.{Rose}
use Rattle.zre_capture.specs.Lines.{IsEntry}
use Rattle.zre_commands.specs.declared.pump.status.Status.{Status}
use Rattle.zre_commands.specs.declared.pump.status.Status.TheVariants.{Done, OutOfMemory}
use Rattle.zre_records.proofs.CapturesAreReplayed.{written}
use Rattle.zre_console.specs.Lived.{IsSpared}
use Rattle.zre_console.proofs.LeastStatus.{memory_isnt}
use Rattle.zre_app.proofs.laws.kept_captures_are_replayed.Goals as goal

-- where something was spared memory didn't run out
has_memory : (status : Status) (rose : Type 0) → IsSpared status rose → status ≢ OutOfMemory
has_memory status rose spared = ⊎_elim (λ (is : status ≡ Done) (e : status ≡ OutOfMemory). memory_isnt (sym e ∙ is)) (λ (x : (status ≢ OutOfMemory) × ¬ rose). x.0) spared

pub returns : goal.returns
returns c = λ g start file limit s t status chat whole kept short. (
    let es = chat.lived.entries in
    let values = subst (All IsEntry) (ap (λ l. es ++ l) (chat.lived.all_taken kept) ∙ append-nil es) chat.lived.are_values in
    let settings = chat.captured.are_settings (has_memory status (Rose s.record_faults t.record_faults) kept) in
    let r = written g es settings values short in record {
      entries = es;
      is_good = r.is_good;
      is_written = subst (Appends s.written t.written) (sym r.is_written) (chat.wrote.whole whole);
      is_kept = chat.captured.held file refl kept;
    })
