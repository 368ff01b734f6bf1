-- The machine of `upgrade`, fed one more piece: the text of more octets begins with that of fewer.
use Rattle.std.proofs.Common.{◌≡◌, ℕ, List, [], ◌++◌, sym, ap, ◌∙◌, append_assoc, append-nil}
use Rattle.zre_outside.specs.declared.entry.Entry.{Entry}
use Rattle.zre_capture.specs.Heads.{head}
use Rattle.zre_capture.specs.Journal.{journal}
use Rattle.zre_capture.specs.Lines.{lines}
use Rattle.zre_capture.specs.declared.format.Format.TheVariants.{First, Second}
use Rattle.zre_values.specs.declared.settings.Settings.{Settings}
use Rattle.zre_capture.proofs.JoinedEntries.{lines-append}
use Rattle.zre_capture.proofs.JournalGrows.{journal_grows}
use Rattle.zre_commands.specs.pump.Meaning.{Grows}
use Rattle.zre_records.specs.upgrade.Upgrade.{text, upgrade}
use Rattle.zre_records.specs.upgrade.Written.{Wrote}
use Rattle.zre_records.proofs.replay.CaptureInPieces.{no_entries}

pub text_nothing : (s : Settings) → text s [] ≡ head Second s
unfolding text
text_nothing s = ap (λ (J : List Entry). head Second s ++ lines Second 0 J) no_entries ∙ append-nil (head Second s)

-- more entries, more lines
pub text_by : (s : Settings) (o x : List ℕ) (es : List Entry) (added : List ℕ) → journal First (o ++ x) ≡ journal First o ++ es → lines Second 0 (journal First o ++ es) ≡ lines Second 0 (journal First o) ++ added → text s (o ++ x) ≡ text s o ++ added
unfolding text
text_by s o x es added j e =
    ap (λ (J : List Entry). head Second s ++ lines Second 0 J) j ∙ ap (λ (l : List ℕ). head Second s ++ l) e ∙ sym (append_assoc (head Second s) (lines Second 0 (journal First o)) added)

pub text_grows : (s : Settings) (o x : List ℕ) → (added : List ℕ) × (text s (o ++ x) ≡ text s o ++ added)
text_grows s o x =
    let more = journal_grows First o x in
    (_, text_by s o x more.0 _ more.1 (lines-append Second 0 (journal First o) more.0))

-- the lines of the entries of a piece were written
pub text_on : (s : Settings) (o x : List ℕ) (es : List Entry) (at : ℕ) (out out' : List ℕ) → journal First (o ++ x) ≡ journal First o ++ es → Wrote (journal First o) es at out out' → Grows (upgrade s) o x out out'
text_on s o x es at out out' j w = record { added = w.added; longer = text_by s o x es w.added j w.more; appended = w.appended }
