-- The machine of `audit` and what its captures say.
use Rattle.std.proofs.Common.{◌≡◌, ℕ, Bool, true, false, cond, List, ◌∷◌, ◌++◌, Option, Some, None, option_map, Result, Ok, Err, IfOk, OnOk, refl, sym, ap, ◌∙◌, subst, arith, append-nil}
use Rattle.std.specs.Prelude.{is_some}
use Rattle.std.specs.Option.{option_or}
use Rattle.zre_capture.specs.Journal.{journal, settings, bad, bad_at_end}
use Rattle.zre_capture.specs.declared.fault.BadCapture.{BadCapture}
use Rattle.zre_capture.specs.declared.format.Format.TheVariants.{Second}
use Rattle.zre_values.specs.declared.settings.Settings.{Settings}
use Rattle.zre_outside.specs.declared.entry.Entry.{Entry}
use Rattle.zre_records.specs.audit.Audit.{earlier, later, later_bad, later_bad_at_end, moved, place, judgement, verdict}
use Rattle.zre_records.specs.audit.Auditor.{Fed}
use Rattle.zre_records.specs.audit.Cut.{mark, lines_of}
use Rattle.zre_records.specs.audit.Later.{IsLater}
use Rattle.zre_records.specs.audit.Seam.{is_whole, after, before_seam}
use Rattle.zre_records.specs.audit.Watched.{Watched, IsWatched}
use Rattle.zre_records.specs.declared.audit.auditor.Auditor.{Auditor}
use Rattle.zre_records.specs.declared.audit.later.Later.{Later}
use Rattle.zre_records.proofs.audit.AuditorFedPiece.{HasSeen, has_seen, not_begun}
use Rattle.zre_records.proofs.audit.AuditorFedPiece.HasSeen.{Seen}
use Rattle.zre_records.proofs.audit.CapturesOfText.{is_earlier, is_begun, is_none, is_marked, either_whole, place_both, place_none, place_marked, no_verdict, verdict_both}

lines_are : (a : Auditor) (o : List ℕ) → Fed a o → lines_of (before_seam o) ≡ a.seam.lines
lines_are a o f = omega (arith, f.seam.lines)

-- ---- refused however it goes on

pub first_is : (a : Auditor) (o : List ℕ) (b : Bool) → Fed a o → ((u : List ℕ) → Watched a.first u → b ≡ is_some (bad Second u)) → b ≡ is_some (bad Second (earlier o))
first_is a o b f h = h (before_seam o) f.first ∙ sym (ap is_some (is_earlier o).bad_is)

pub second_none : (a : Auditor) (o : List ℕ) → Fed a o → a.second ≡ None → false ≡ is_some (later_bad (settings Second (earlier o)) (later o))
second_none a o f e = sym (ap is_some (either_whole o (not_begun a o f e)))

pub second_is : (a : Auditor) (o : List ℕ) (l : Later) (b : Bool) → Fed a o → a.second ≡ Some l → ((told : Option Settings) (y : List ℕ) → IsLater told y l → b ≡ is_some (later_bad told y))
    → b ≡ is_some (later_bad (settings Second (earlier o)) (later o))
second_is a o l b f e h = by (has_seen a o l f e)
  where
    by : HasSeen a o l → b ≡ is_some (later_bad (settings Second (earlier o)) (later o))
    by (Seen c t q k) =
        h (settings Second (before_seam o)) (mark ++ c ∷ t) k
        ∙ ap (λ (s : Option Settings). is_some (later_bad s (mark ++ c ∷ t))) (sym (is_earlier o).settings_is)
        ∙ ap (λ (y : List ℕ). is_some (later_bad (settings Second (earlier o)) y)) (sym (is_begun o c t q).later_is)

-- ---- before it was seen that the second has begun

whole_is : (a : Auditor) (o : List ℕ) (w : Bool) → Fed a o → is_whole a.seam.awaited ≡ w → is_whole (after None (before_seam o)) ≡ w
whole_is a o w f e = sym (ap is_whole f.seam.awaited) ∙ e

pub first_marked : (a : Auditor) (o : List ℕ) (b : Option BadCapture) → Fed a o → a.second ≡ None → is_whole a.seam.awaited ≡ true → b ≡ bad Second (before_seam o) → b ≡ bad_at_end Second (earlier o)
first_marked a o b f e w is = is ∙ sym (is_marked o (not_begun a o f e) (whole_is a o true f w)).end_is

pub first_alone : (a : Auditor) (o : List ℕ) (b : Option BadCapture) → Fed a o → a.second ≡ None → is_whole a.seam.awaited ≡ false → b ≡ bad_at_end Second (before_seam o) → b ≡ bad_at_end Second (earlier o)
first_alone a o b f e w is = is ∙ sym (is_none o (not_begun a o f e) (whole_is a o false f w)).end_is

pub place_first : (o : List ℕ) (b : Option BadCapture) (at : BadCapture) → b ≡ bad_at_end Second (earlier o) → b ≡ Some at → Some at ≡ place o
place_first o b at is some = sym (ap (λ (x : Option BadCapture). option_or x (option_map (moved (lines_of (earlier o))) (later_bad_at_end (settings Second (earlier o)) (later o)))) (sym is ∙ some))

pub place_alone : (a : Auditor) (o : List ℕ) (b found : Option BadCapture) (n column : ℕ) → Fed a o → a.second ≡ None → b ≡ bad_at_end Second (earlier o) → b ≡ None
    → column ≡ cond (is_whole a.seam.awaited) 12 1 → n ≡ a.seam.lines → found ≡ option_map (moved n) (Some (record { line = 1; column = column })) → found ≡ place o
place_alone a o b found n column f e is none c lines found_is =
    found_is ∙ ap (λ (m : ℕ). option_map (moved m) (Some (record { line = 1; column = column }))) (lines ∙ sym (lines_are a o f))
    ∙ ap (λ (k : ℕ). option_map (moved (lines_of (before_seam o))) (Some (record { line = 1; column = k }))) c
    ∙ by (is_whole a.seam.awaited) refl
  where
    last : (w : Bool) → Option BadCapture
    last w = option_map (moved (lines_of (before_seam o))) (Some (record { line = 1; column = cond w 12 1 }))

    by : (w : Bool) → is_whole a.seam.awaited ≡ w → last w ≡ place o
    by true w =
        let n = not_begun a o f e in
        let u = whole_is a o true f w in
        ap (λ (x : Option BadCapture). option_or x (last true)) (sym (sym (is_marked o n u).end_is ∙ sym is ∙ none)) ∙ sym (place_marked o n u)
    by false w =
        let n = not_begun a o f e in
        let u = whole_is a o false f w in
        ap (λ (x : Option BadCapture). option_or x (last false)) (sym (sym (is_none o n u).end_is ∙ sym is ∙ none)) ∙ sym (place_none o n u)

-- ---- since

pub place_before : (a : Auditor) (o : List ℕ) (l : Later) (b : Option BadCapture) (at : BadCapture) → Fed a o → a.second ≡ Some l → ((u : List ℕ) → Watched a.first u → b ≡ bad Second u) → b ≡ Some at → Some at ≡ place o
place_before a o l b at f e is some = by (has_seen a o l f e)
  where
    by : HasSeen a o l → Some at ≡ place o
    by (Seen c t q k) =
        sym (place_both o c t q
        ∙ ap (λ (x : Option BadCapture). option_or x (option_map (moved (lines_of (before_seam o))) (later_bad_at_end (settings Second (before_seam o)) (mark ++ c ∷ t)))) (sym (is (before_seam o) f.first) ∙ some))

pub place_later : (a : Auditor) (o : List ℕ) (l : Later) (b last found : Option BadCapture) (n : ℕ) → Fed a o → a.second ≡ Some l → ((u : List ℕ) → Watched a.first u → b ≡ bad Second u) → b ≡ None
    → ((told : Option Settings) (y : List ℕ) → IsLater told y l → last ≡ later_bad_at_end told y) → n ≡ a.seam.lines → found ≡ option_map (moved n) last → found ≡ place o
place_later a o l b last found n f e is none last_is lines found_is = by (has_seen a o l f e)
  where
    by : HasSeen a o l → found ≡ place o
    by (Seen c t q k) =
        found_is ∙ ap (λ (m : ℕ). option_map (moved m) last) (lines ∙ sym (lines_are a o f))
        ∙ ap (option_map (moved (lines_of (before_seam o)))) (last_is (settings Second (before_seam o)) (mark ++ c ∷ t) k)
        ∙ sym (place_both o c t q
        ∙ ap (λ (x : Option BadCapture). option_or x (option_map (moved (lines_of (before_seam o))) (later_bad_at_end (settings Second (before_seam o)) (mark ++ c ∷ t)))) (sym (is (before_seam o) f.first) ∙ none))

-- ---- the verdict

pub judged_none : (a : Auditor) (o out : List ℕ) → Fed a o → a.second ≡ None → out ≡ out ++ verdict o
judged_none a o out f e = sym (ap (λ (x : List ℕ). out ++ x) (no_verdict o (not_begun a o f e)) ∙ append-nil out)

pub judged_both : {E : Type 0} (r : Result Unit E) (a : Auditor) (o : List ℕ) (l : Later) (out out' : List ℕ) → Fed a o → a.second ≡ Some l
    → ((s t : Option Settings) (J K : List Entry) → IsWatched s J a.first.made → IsWatched t K l.capture.made → OnOk r (out' ≡ out ++ judgement s t J K)) → OnOk r (out' ≡ out ++ verdict o)
judged_both r a o l out out' f e h = by (has_seen a o l f e)
  where
    by : HasSeen a o l → OnOk r (out' ≡ out ++ verdict o)
    by (Seen c t q k) =
        subst (λ (x : List ℕ). OnOk r (out' ≡ out ++ x)) (sym (verdict_both o c t q))
        (h (settings Second (before_seam o)) (settings Second (mark ++ c ∷ t)) (journal Second (before_seam o)) (journal Second (mark ++ c ∷ t)) f.first.lives k.follows.lives)

-- what holds of an answer, where another thing follows from it
pub if_ok : {T E : Type 0} (r : Result T E) (P Q : T → Type 0) → IfOk r P → ((x : T) → P x → Q x) → IfOk r Q
if_ok (Ok x) P Q p h = h x p
if_ok (Err e) P Q p h = tt
