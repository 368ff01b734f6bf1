-- The machine of `audit` at the end of its input, and what it refuses.
use Rattle.std.proofs.Common.{◌≡◌, ℕ, Bool, true, false, cond, nat_eq, List, [], ◌∷◌, ◌++◌, Option, Some, None, option_map, inl, inr, refl, sym, ap, ◌∙◌, subst, true≢false, append-nil}
use Rattle.std.specs.Prelude.{is_some}
use Rattle.std.specs.Option.{option_or}
use Rattle.std.proofs.lemmas.Bool.{and_parts, and_from, or_cases}
use Rattle.zre_audit.specs.Prefixes.{begins}
use Rattle.zre_capture.specs.Journal.{settings, bad, bad_at_end}
use Rattle.zre_capture.specs.declared.fault.BadCapture.{BadCapture}
use Rattle.zre_capture.specs.declared.format.Format.TheVariants.{Second}
use Rattle.zre_values.specs.declared.settings.Settings.{Settings}
use Rattle.zre_capture.proofs.BadStaysBad.{bad_stays}
use Rattle.zre_records.specs.audit.Audit.{earlier, own_front, is_again, later_bad, later_bad_at_end, moved, audit}
use Rattle.zre_records.specs.audit.Cut.{mark, lines_of}
use Rattle.zre_records.specs.audit.Seam.{after, parted, before_seam, from_seam}
use Rattle.zre_commands.specs.pump.Meaning.{Grows, KeepsRefusing}
use Rattle.zre_records.proofs.audit.SecondCaptureBegins.{parted_later, parted_on, all_before}
use Rattle.zre_records.proofs.replay.CaptureInPieces.{nothing_stopped}
use Rattle.zre_records.proofs.audit.CapturesOfText.{is_earlier, stopped_first, stopped_both, place_both}

-- nothing is written before the end
pub nothing_written : (o x out : List ℕ) → Grows audit o x out out
nothing_written o x out = record { added = []; longer = refl; appended = sym (append-nil out) }

-- ---- what is refused however it goes on is refused with whatever follows

begins_longer : (h o x : List ℕ) → begins nat_eq h o ≡ true → begins nat_eq h (o ++ x) ≡ true
begins_longer [] o x e = refl
begins_longer (a ∷ h) [] x e = absurd (true≢false (sym e))
begins_longer (a ∷ h) (b ∷ o) x e =
    let p = and_parts (nat_eq a b) (begins nat_eq h o) e in
    and_from (nat_eq a b) (begins nat_eq h (o ++ x)) p.0 (begins_longer h o x p.1)

again_stays : (told : Option Settings) (o x : List ℕ) → is_again told o ≡ true → is_again told (o ++ x) ≡ true
again_stays None o x e = absurd (true≢false (sym e))
again_stays (Some s) o x e = begins_longer (own_front s) o x e

pub or_there : (b e : Option BadCapture) → is_some b ≡ true → is_some (option_or b e) ≡ true
or_there None e there = absurd (true≢false (sym there))
or_there (Some b) e there = refl

or_some : (b e : Option BadCapture) → is_some e ≡ true → is_some (option_or b e) ≡ true
or_some None e there = there
or_some (Some b) e there = refl

map_some : (f : BadCapture → BadCapture) (b : Option BadCapture) → is_some b ≡ true → is_some (option_map f b) ≡ true
map_some f None there = there
map_some f (Some b) there = refl

-- the second capture
later_stays : (told : Option Settings) (o x : List ℕ) → is_some (later_bad told o) ≡ true → is_some (later_bad_at_end told (o ++ x)) ≡ true
later_stays told o x e = by (is_again told o) refl e
  where
    either : (d : Bool) → is_some (bad Second o) ≡ true → is_some (cond d (Some (record { line = 1; column = 15 })) (bad_at_end Second (o ++ x))) ≡ true
    either true e = refl
    either false e = or_there (bad Second (o ++ x)) _ (bad_stays Second o x e)

    by : (d : Bool) → is_again told o ≡ d → is_some (cond d (Some (record { line = 1; column = 15 })) (bad Second o)) ≡ true → is_some (later_bad_at_end told (o ++ x)) ≡ true
    by true q e = rw (again_stays told o x q) refl
    by false q e = either (is_again told (o ++ x)) e

later_of : (o x : List ℕ) (b : ℕ) (t : List ℕ) → from_seam o ≡ b ∷ t → is_some (later_bad (settings Second (before_seam o)) (mark ++ b ∷ t)) ≡ true → audit.is_bad (o ++ x) ≡ true
later_of o x b t q e =
    let parts : parted None (o ++ x) ≡ (before_seam o, from_seam o ++ x) = parted_later None o x b t q in
    let front : before_seam (o ++ x) ≡ before_seam o = ap (λ (p : List ℕ × List ℕ). p.0) parts in
    let rest : from_seam (o ++ x) ≡ b ∷ (t ++ x) = ap (λ (p : List ℕ × List ℕ). p.1) parts ∙ ap (λ (y : List ℕ). y ++ x) q in
    let there : is_some (later_bad_at_end (settings Second (before_seam (o ++ x))) (mark ++ b ∷ (t ++ x))) ≡ true =
    subst (λ (v : List ℕ). is_some (later_bad_at_end (settings Second v) (mark ++ b ∷ (t ++ x))) ≡ true) (sym front) (later_stays (settings Second (before_seam o)) (mark ++ b ∷ t) x e) in
    ap is_some (place_both (o ++ x) b (t ++ x) rest)
    ∙ or_some (bad Second (before_seam (o ++ x))) _ (map_some (moved (lines_of (before_seam (o ++ x)))) (later_bad_at_end (settings Second (before_seam (o ++ x))) (mark ++ b ∷ (t ++ x))) there)

-- the first: what came before the second has begun begins with what came of it
longer_by : (o x : List ℕ) → (y : List ℕ) × (before_seam (o ++ x) ≡ before_seam o ++ y)
longer_by o x = by (from_seam o) refl
  where
    by : (t : List ℕ) → from_seam o ≡ t → (y : List ℕ) × (before_seam (o ++ x) ≡ before_seam o ++ y)
    by [] q = (
      (parted (after None o) x).0,
      ap (λ (p : List ℕ × List ℕ). p.0) (parted_on None o x q) ∙ ap (λ (u : List ℕ). u ++ (parted (after None o) x).0) (sym (all_before None o q)),
    )
    by (b ∷ t) q = ([], ap (λ (p : List ℕ × List ℕ). p.0) (parted_later None o x b t q) ∙ sym (append-nil (before_seam o)))

first_of : (o x : List ℕ) → is_some (bad Second (before_seam o)) ≡ true → audit.is_bad (o ++ x) ≡ true
first_of o x e =
    let more = longer_by o x in
    let there : is_some (bad Second (earlier (o ++ x))) ≡ true =
    ap is_some ((is_earlier (o ++ x)).bad_is ∙ ap (bad Second) more.1) ∙ bad_stays Second (before_seam o) more.0 e in
    or_there (bad_at_end Second (earlier (o ++ x))) _ (or_there (bad Second (earlier (o ++ x))) _ there)

pub audit_refuses : KeepsRefusing audit
audit_refuses o x e = by (from_seam o) refl
  where
    by : (t : List ℕ) → from_seam o ≡ t → audit.is_bad (o ++ x) ≡ true
    by [] q = first_of o x (sym (stopped_first o q) ∙ e)
    by (b ∷ t) q = elim (or_cases (is_some (bad Second (before_seam o))) _ (sym (stopped_both o b t q) ∙ e)) [
      | inl first ↦ first_of o x first
      | inr second ↦ later_of o x b t q second
    ]

pub stopped_bad : (o : List ℕ) → audit.is_stopped o ≡ true → audit.is_bad o ≡ true
stopped_bad o e = ap audit.is_bad (sym (append-nil o)) ∙ audit_refuses o [] e

-- before any octet
pub start_going : audit.is_stopped [] ≡ false
start_going = stopped_first [] refl ∙ nothing_stopped Second
