-- Whole captures.
use Rattle.std.proofs.Common.{◌≡◌, ℕ, ◌≤◌, ◌<◌, List, [], ◌∷◌, ◌++◌, length, Some, None, refl, ap, ◌∙◌, arith, All, append_assoc}
use Rattle.std.specs.Prelude.{codes}
use Rattle.std.proofs.lemmas.Bool.{le-ltb, ne_eqb}
use Rattle.std.proofs.lemmas.List.Elements.{All-head, All-tail}
use Rattle.zre_outside.specs.declared.entry.Entry.{Entry}
use Rattle.zre_capture.specs.Formats.{longest}
use Rattle.zre_capture.specs.Heads.{head_fields, head_text, head, AreSettings, IsShortHead}
use Rattle.zre_capture.specs.Lines.{fields, text, lines, IsNumber, IsEntry, AreShort}
use Rattle.zre_capture.specs.Parts.{Lacks}
use Rattle.zre_capture.specs.Journal.{said, settings_said, line_of, lines_in, next, entries_from, bad_from, end_from, settings_in, start, bad, capture, told_settings, IsCaptureOf}
use Rattle.zre_capture.specs.declared.format.Format.{Format}
use Rattle.zre_capture.specs.declared.format.Format.TheVariants.{First, Second}
use Rattle.zre_capture.specs.declared.line_start.LineStart.{LineStart}
use Rattle.zre_values.specs.declared.settings.Settings.{Settings}
use Rattle.zre_capture.proofs.TextParts.{between-cut, lacks-from_any}
use Rattle.zre_capture.proofs.LineByLine.{entries-good, bad-good, end-good, some_lines, head-first}
use Rattle.zre_capture.proofs.HeadSettings.{head-visible, settings_of-head}
use Rattle.zre_capture.proofs.VisibleFields.{no_line_feed}
use Rattle.zre_capture.proofs.WrittenIsRead.{entry_of-text, fields-visible}

-- ---- the head

head-lacks : (f : Format) (s : Settings) → AreSettings s → Lacks 10 (head_text f s)
head-lacks First s are = lacks-from_any 10 (codes "zre-capture 1") refl
head-lacks Second s are = no_line_feed (head_fields s) (head-visible s are)

head_cut : (f : Format) (s : Settings) (r : List ℕ) → AreSettings s → lines_in (head f s ++ r) ≡ head_text f s ∷ lines_in r
head_cut f s r are = between-cut 10 (head f s ++ r) (head_text f s) r (append_assoc (head_text f s) (10 ∷ []) r) (head-lacks f s are)

said_by_head : (f : Format) (s : Settings) → AreSettings s → said (start f) (head_text f s) ≡ Some []
unfolding said
said_by_head First s are = refl
said_by_head Second s are = rw (settings_of-head s are) refl

head_says : (f : Format) (s : Settings) → AreSettings s → IsShortHead f s → line_of (start f) (head_text f s) ≡ Some []
head_says f s are short = rw (le-ltb (longest f) (length (head_text f s)) short) (said_by_head f s are)

told_by_head : (f : Format) (s : Settings) → AreSettings s → settings_said f (head_text f s) ≡ told_settings f s
told_by_head First s are = refl
told_by_head Second s are = settings_of-head s are

head_tells : (f : Format) (s : Settings) (ls : List (List ℕ)) → AreSettings s → IsShortHead f s → 0 < length ls → settings_in f (head_text f s ∷ ls) ≡ told_settings f s
head_tells f s ls are short some =
    head-first f (head_text f s) ls some ∙ (rw (le-ltb (longest f) (length (head_text f s)) short) (told_by_head f s are))

-- ---- the lines of entries

text_says : (p : LineStart) (e : Entry) → 1 < p.line → IsNumber p.before → IsEntry e → length (text p.format p.before e) ≤ longest p.format → line_of p (text p.format p.before e) ≡ Some (e ∷ [])
unfolding said
text_says p e more fits is short =
    rw (le-ltb (longest p.format) (length (text p.format p.before e)) short, ne_eqb p.line 1 (λ same. omega (arith, same, more)), entry_of-text p.format p.before e fits is) refl

line_cut : (f : Format) (before : ℕ) (e : Entry) (es : List Entry) → IsNumber before → IsEntry e → lines_in (lines f before (e ∷ es)) ≡ text f before e ∷ lines_in (lines f e.at es)
line_cut f before e es fits is =
    between-cut 10 (lines f before (e ∷ es)) (text f before e) (lines f e.at es) (append_assoc (text f before e) (10 ∷ []) (lines f e.at es)) (no_line_feed (fields f before e) (fields-visible f before e fits is))

-- what lines after the head say
record Said (p : LineStart) (es : List Entry) : Type 0 where
  entries : entries_from p (lines_in (lines p.format p.before es)) ≡ es
  faultless : bad_from p (lines_in (lines p.format p.before es)) ≡ None
  whole : end_from p (lines_in (lines p.format p.before es)) ≡ None

nothing_said : (p : LineStart) → 1 < p.line → Said p []
unfolding entries_from bad_from end_from
nothing_said p more = record { entries = refl; faultless = rw (le-ltb (longest p.format) 0 (omega arith)) refl; whole = rw (ne_eqb p.line 1 (λ same. omega (arith, same, more))) refl }

one_said : (p : LineStart) (e : Entry) (es : List Entry) → 1 < p.line → IsNumber p.before → IsEntry e → length (text p.format p.before e) ≤ longest p.format → Said (next p (e ∷ [])) es → Said p (e ∷ es)
one_said p e es more fits is short rest =
    let cut = line_cut p.format p.before e es fits is in
    let says = text_says p e more fits is short in
    let others = some_lines (lines p.format e.at es) in
    record {
      entries = ap (entries_from p) cut ∙ entries-good p (text p.format p.before e) (e ∷ []) (lines_in (lines p.format e.at es)) others says ∙ ap (λ (l : List Entry). e ∷ l) rest.entries;
      faultless = ap (bad_from p) cut ∙ bad-good p (text p.format p.before e) (e ∷ []) (lines_in (lines p.format e.at es)) others says ∙ rest.faultless;
      whole = ap (end_from p) cut ∙ end-good p (text p.format p.before e) (e ∷ []) (lines_in (lines p.format e.at es)) others says ∙ rest.whole;
    }

all_said : (p : LineStart) (es : List Entry) → 1 < p.line → IsNumber p.before → All IsEntry es → AreShort p.format p.before es → Said p es
all_said p [] more fits are short = nothing_said p more
all_said p (e ∷ es) more fits are short =
    one_said p e es more fits (All-head IsEntry e es are) short.0
    (all_said (next p (e ∷ [])) es (omega (arith, more)) (All-head IsEntry e es are).at (All-tail IsEntry e es are) short.1)

-- the head and the lines of entries are a capture of them
pub captured : (f : Format) (s : Settings) (es : List Entry) → AreSettings s → IsShortHead f s → All IsEntry es → AreShort f 0 es → IsCaptureOf f s es (capture f s es)
captured f s es are short_head entries short =
    let rest = all_said (next (start f) []) es (omega arith) (omega arith) entries short in
    let cut = head_cut f s (lines f 0 es) are in
    let says = head_says f s are short_head in
    let others = some_lines (lines f 0 es) in
    let faultless : bad f (capture f s es) ≡ None = ap (bad_from (start f)) cut ∙ bad-good (start f) (head_text f s) [] (lines_in (lines f 0 es)) others says ∙ rest.faultless in
    let ends : end_from (start f) (lines_in (capture f s es)) ≡ None = ap (end_from (start f)) cut ∙ end-good (start f) (head_text f s) [] (lines_in (lines f 0 es)) others says ∙ rest.whole in
    record {
      settings_are = ap (settings_in f) cut ∙ head_tells f s (lines_in (lines f 0 es)) are short_head others;
      entries = ap (entries_from (start f)) cut ∙ entries-good (start f) (head_text f s) [] (lines_in (lines f 0 es)) others says ∙ rest.entries;
      faultless = faultless;
      whole = rw (faultless, ends) refl;
    }
