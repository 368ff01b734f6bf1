-- A capture that is read in pieces.
use Rattle.std.proofs.Common.{◌≡◌, ℕ, true, false, None, List, [], ◌++◌, refl, sym, ap, ◌∙◌, subst}
use Rattle.std.specs.Prelude.{is_some}
use Rattle.zre_capture.specs.Journal.{journal, bad, bad_from, entries_from, format_of, Reads, Adds}
use Rattle.zre_capture.specs.declared.format.Format.{Format}
use Rattle.zre_capture.specs.declared.format.Format.TheVariants.{First, Second}
use Rattle.zre_outside.specs.declared.entry.Entry.{Entry}
use Rattle.zre_records.specs.declared.replay.reading.State.{State}
use Rattle.zre_records.specs.declared.replay.reading.State.TheVariants.{Going, Bad, Lost}
use Rattle.zre_records.specs.declared.replay.waiting.WaitingReader.{WaitingReader}
use Rattle.zre_records.specs.replay.State.{IsState, IsRead}

-- ---- before any octet

pub not_bad : (f : Format) → bad f [] ≡ None
unfolding bad_from
not_bad First = refl
not_bad Second = refl

pub nothing_stopped : (f : Format) → is_some (bad f []) ≡ false
nothing_stopped f = ap is_some (not_bad f)

pub no_entries : journal First [] ≡ []
unfolding entries_from
no_entries = refl

-- ---- a piece

-- a capture that isn't bad so far has a reader
pub goes_on : {C : Type 0} (f : Format) (s : State) (o : List ℕ) → IsState f s o → is_some (bad f o) ≡ false → ((w : _) → s ≡ Going w → ⊥) → C
goes_on f (Going w) o h e no_reader = absurd (no_reader w refl)
goes_on f (Bad r) o h e no_reader = let z : true ≡ false = sym (ap is_some h.0) ∙ e in absurd cc
goes_on f Lost o h e no_reader = absurd h

-- a piece was read, where its reader stood after o and had no entries in its list
pub piece_read : (f : Format) (o x : List ℕ) (before taken now : State) (w : WaitingReader) (old new : List Entry) → IsState f before o → taken ≡ before → taken ≡ Going w
    → ((p : List ℕ) → Reads p w.reader → IsState (format_of w.reader) now (p ++ x) × Adds (format_of w.reader) p x old new) → old ≡ [] → IsRead f o x now new
piece_read f o x before taken now w old new h same is read none =
    let w_is = subst (λ s. IsState f s o) (sym same ∙ is) h in
    let r = subst (λ g. IsState g now (o ++ x) × Adds g o x old new) w_is.2 (read o w_is.1) in
    record { is = r.0; more = r.1.more ∙ ap (λ (es : List Entry). journal f o ++ es) (sym (r.1.added ∙ ap (λ (es : List Entry). es ++ r.1.entries) none)) }

-- the same of a state that is kept
pub is_still : (f : Format) (o : List ℕ) (before now : State) → now ≡ before → IsState f before o → IsState f now o
is_still f o before now same is = subst (λ s. IsState f s o) (sym same) is
