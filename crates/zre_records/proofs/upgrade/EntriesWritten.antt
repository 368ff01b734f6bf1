-- Entries written after entries.
use Rattle.std.proofs.Common.{◌≡◌, ℕ, List, [], ◌∷◌, ◌++◌, sym, ap, ◌∙◌, append_assoc, append-nil}
use Rattle.zre_outside.specs.declared.entry.Entry.{Entry}
use Rattle.zre_capture.specs.Journal.{last_reading}
use Rattle.zre_capture.specs.Lines.{line, lines}
use Rattle.zre_capture.specs.declared.format.Format.TheVariants.{Second}
use Rattle.zre_capture.proofs.JoinedEntries.{last-append, lines-append}
use Rattle.zre_records.specs.upgrade.Written.{Wrote}

pub wrote_none : (J : List Entry) (at : ℕ) (out : List ℕ) → at ≡ last_reading 0 J → Wrote J [] at out out
wrote_none J at out e = record {
  last = e ∙ ap (last_reading 0) (sym (append-nil J));
  added = [];
  more = ap (lines Second 0) (append-nil J) ∙ sym (append-nil (lines Second 0 J));
  appended = sym (append-nil out);
}

pub wrote_more : (J es : List Entry) (e : Entry) (at : ℕ) (a b c : List ℕ) → Wrote J es at a b → c ≡ b ++ line Second at e → Wrote J (es ++ e ∷ []) e.at a c
wrote_more J es e at a b c w grown = record {
  last = sym (ap (last_reading 0) (sym (append_assoc J es (e ∷ []))) ∙ last-append 0 (J ++ es) (e ∷ []));
  added = w.added ++ line Second at e;
  more = ap (lines Second 0) (sym (append_assoc J es (e ∷ []))) ∙ lines-append Second 0 (J ++ es) (e ∷ [])
      ∙ ap (λ (l : List ℕ). lines Second 0 (J ++ es) ++ l) (append-nil (line Second (last_reading 0 (J ++ es)) e) ∙ ap (λ (n : ℕ). line Second n e) (sym w.last))
      ∙ ap (λ (l : List ℕ). l ++ line Second at e) w.more ∙ append_assoc (lines Second 0 J) w.added (line Second at e);
  appended = grown ∙ ap (λ (l : List ℕ). l ++ line Second at e) w.appended ∙ append_assoc a w.added (line Second at e);
}
