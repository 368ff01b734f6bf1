-- Entries after entries.
use Rattle.std.proofs.Common.{◌≡◌, ℕ, List, [], ◌∷◌, ◌++◌, refl, sym, ap, ◌∙◌, append_assoc}
use Rattle.zre_outside.specs.declared.entry.Entry.{Entry}
use Rattle.zre_capture.specs.Journal.{last_reading}
use Rattle.zre_capture.specs.Lines.{line, lines}
use Rattle.zre_capture.specs.declared.format.Format.{Format}

pub last-append : (before : ℕ) (es fs : List Entry) → last_reading before (es ++ fs) ≡ last_reading (last_reading before es) fs
last-append before [] fs = refl
last-append before (e ∷ es) fs = last-append e.at es fs

pub lines-append : (f : Format) (before : ℕ) (es fs : List Entry) → lines f before (es ++ fs) ≡ lines f before es ++ lines f (last_reading before es) fs
lines-append f before [] fs = refl
lines-append f before (e ∷ es) fs =
    ap (λ (l : List ℕ). line f before e ++ l) (lines-append f e.at es fs) ∙ sym (append_assoc (line f before e) (lines f e.at es) (lines f (last_reading e.at es) fs))
