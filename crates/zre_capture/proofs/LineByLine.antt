-- Lines, one after the other.
use Rattle.std.proofs.Common.{subst, ◌≡◌, ℕ, ◌+◌, ◌-◌, ◌≤◌, ◌<◌, ◌==◌, ◌&&◌, not, Bool, true, false, cond, List, [], ◌∷◌, ◌++◌, length, take, Option, Some, None, inl, inr, refl, sym, ap, ◌∙◌, arith, append_assoc}
use Rattle.std.specs.Prelude.{ltb, is_some, unwrap_or}
use Rattle.std.specs.Option.{option_map_or, option_or}
use Rattle.std.proofs.Math.Seq.{take-append-add}
use Rattle.std.proofs.lemmas.Bool.{lt-ltb, le-ltb, ne_eqb, eq-eqb, eqb-true, cases_Bool}
use Rattle.std.proofs.lemmas.List.{append-nil}
use Rattle.std.proofs.lemmas.List.Elements.{All-append}
use Rattle.std.proofs.lemmas.List.Splits.{length-slice_split}
use Rattle.zre_outside.specs.declared.entry.Entry.{Entry}
use Rattle.zre_capture.specs.Formats.{longest}
use Rattle.zre_capture.specs.Parts.{Lacks}
use Rattle.zre_capture.specs.Reading.{bad_field, but_last, fields_in, settings_of, column, long_column, bad_column}
use Rattle.zre_capture.specs.Journal.{settings_said, is_head, said, line_of, bad_line, next, told_after, lines_in, entries_from, bad_from, end_from, settings_in, start, settings, journal, bad, bad_at_end, CaptureReading, format_of, after_line, Waits, settings_ahead, Reads, Adds, AddsFront, Refuses}
use Rattle.zre_capture.specs.declared.fault.CaptureFault.{CaptureFault}
use Rattle.zre_capture.specs.declared.fault.CaptureFault.TheVariants.{Bad, OutOfMemory}
use Rattle.zre_capture.specs.declared.fault.BadCapture.{BadCapture}
use Rattle.zre_capture.specs.declared.format.Format.{Format}
use Rattle.zre_capture.specs.declared.format.Format.TheVariants.{First, Second}
use Rattle.zre_capture.specs.declared.line_start.LineStart.{LineStart}
use Rattle.zre_values.specs.declared.settings.Settings.{Settings}
use Rattle.zre_capture.proofs.TextParts.{between-cut, between-whole}

-- ---- a line that is too long

long-front : (most : ℕ) (left text front : List ℕ) → length left ≤ most → front ≡ left ++ take (most - length left + 1) text → take (most + 1) (left ++ text) ≡ front
long-front most left text front short e =
    let sum : most + 1 ≡ length left + (most - length left + 1) = omega (arith, short) in
    ap (λ (n : ℕ). take n (left ++ text)) sum ∙ take-append-add left text (most - length left + 1) ∙ sym e

bad_long : (p : LineStart) (t : List ℕ) → longest p.format < length t → bad_column p t ≡ long_column p t
bad_long p t long = rw (lt-ltb (longest p.format) (length t) long) refl

pub long-place : (p : LineStart) (left text front : List ℕ) → length left ≤ longest p.format → longest p.format < length (left ++ text) → front ≡ left ++ take (longest p.format - length left + 1) text
    → record { line = p.line; column = unwrap_or (bad_field p (but_last (fields_in front))) (longest p.format + 1) } ≡ bad_line p (left ++ text)
long-place p left text front short long e =
    let same = long-front (longest p.format) left text front short e in
    ap (λ (c : ℕ). record { line = p.line; column = c })
    (ap (λ (f : List ℕ). unwrap_or (bad_field p (but_last (fields_in f))) (longest p.format + 1)) (sym same) ∙ sym (bad_long p (left ++ text) long))

-- ---- one line

pub some_lines : (o : List ℕ) → 0 < length (lines_in o)
some_lines o = omega (arith, length-slice_split (λ b. b == 10) o)

-- a line that says entries, with others after it
pub entries-good : (p : LineStart) (t : List ℕ) (es : List Entry) (ls : List (List ℕ)) → 0 < length ls → line_of p t ≡ Some es → entries_from p (t ∷ ls) ≡ es ++ entries_from (next p es) ls
unfolding entries_from
entries-good p t es [] some e = absurd (omega (arith, some))
entries-good p t es (u ∷ more) some e = ap (λ (o : Option (List Entry)). option_map_or (λ (fs : List Entry). fs ++ entries_from (next p fs) (u ∷ more)) o []) e

pub bad-good : (p : LineStart) (t : List ℕ) (es : List Entry) (ls : List (List ℕ)) → 0 < length ls → line_of p t ≡ Some es → bad_from p (t ∷ ls) ≡ bad_from (next p es) ls
unfolding bad_from
bad-good p t es [] some e = absurd (omega (arith, some))
bad-good p t es (u ∷ more) some e = ap (λ (o : Option (List Entry)). option_map_or (λ (fs : List Entry). bad_from (next p fs) (u ∷ more)) o (Some (bad_line p t))) e

pub end-good : (p : LineStart) (t : List ℕ) (es : List Entry) (ls : List (List ℕ)) → 0 < length ls → line_of p t ≡ Some es → end_from p (t ∷ ls) ≡ end_from (next p es) ls
unfolding end_from
end-good p t es [] some e = absurd (omega (arith, some))
end-good p t es (u ∷ more) some e = ap (λ (o : Option (List Entry)). option_map_or (λ (fs : List Entry). end_from (next p fs) (u ∷ more)) o None) e

-- a bad line, with others after it
pub entries-bad : (p : LineStart) (t : List ℕ) (ls : List (List ℕ)) → 0 < length ls → line_of p t ≡ None → entries_from p (t ∷ ls) ≡ []
unfolding entries_from
entries-bad p t [] some e = absurd (omega (arith, some))
entries-bad p t (u ∷ more) some e = ap (λ (o : Option (List Entry)). option_map_or (λ (fs : List Entry). fs ++ entries_from (next p fs) (u ∷ more)) o []) e

bad-bad : (p : LineStart) (t : List ℕ) (ls : List (List ℕ)) → 0 < length ls → line_of p t ≡ None → bad_from p (t ∷ ls) ≡ Some (bad_line p t)
unfolding bad_from
bad-bad p t [] some e = absurd (omega (arith, some))
bad-bad p t (u ∷ more) some e = ap (λ (o : Option (List Entry)). option_map_or (λ (fs : List Entry). bad_from (next p fs) (u ∷ more)) o (Some (bad_line p t))) e

-- a last line
pub entries-last : (p : LineStart) (t : List ℕ) → Lacks 10 t → entries_from p (lines_in t) ≡ []
unfolding entries_from
entries-last p t none = ap (entries_from p) (between-whole 10 t none)

pub bad-last_short : (p : LineStart) (t : List ℕ) → Lacks 10 t → length t ≤ longest p.format → bad_from p (lines_in t) ≡ None
unfolding bad_from
bad-last_short p t none short = ap (bad_from p) (between-whole 10 t none) ∙ (rw (le-ltb (longest p.format) (length t) short) refl)

pub bad-last_long : (p : LineStart) (t : List ℕ) → Lacks 10 t → longest p.format < length t → bad_from p (lines_in t) ≡ Some (bad_line p t)
unfolding bad_from
bad-last_long p t none long = ap (bad_from p) (between-whole 10 t none) ∙ (rw (lt-ltb (longest p.format) (length t) long) refl)

-- ---- the settings of a head

-- the head, with other lines after it
pub head-first : (f : Format) (t : List ℕ) (ls : List (List ℕ)) → 0 < length ls → settings_in f (t ∷ ls) ≡ cond (ltb (longest f) (length t)) None (settings_said f t)
head-first f t [] some = absurd (omega (arith, some))
head-first f t (u ∷ more) some = refl

pub none_is : {A : Type 0} (o : Option A) → is_some o ≡ false → o ≡ None
none_is None e = refl
none_is (Some a) e = absurd cc

not_head : (f : Format) (t : List ℕ) → is_head f t ≡ false → settings_said f t ≡ None
not_head First t e = refl
not_head Second t e = none_is (settings_of t) e

abbrev no_more_entries : List Entry
no_more_entries = []

no_entries : (b : Bool) → cond b (Some no_more_entries) None ≡ None → b ≡ false
no_entries true e = absurd cc
no_entries false e = refl

said-head : (p : LineStart) (t : List ℕ) → p.line ≡ 1 → said p t ≡ cond (is_head p.format t) (Some []) None
unfolding said
said-head p t first = rw (eq-eqb p.line 1 first) refl

-- a first line that is bad says no settings
bad-says_none : (p : LineStart) (t : List ℕ) (b : Bool) → ltb (longest p.format) (length t) ≡ b → p.line ≡ 1 → cond b None (said p t) ≡ None → cond b None (settings_said p.format t) ≡ None
bad-says_none p t true long first e = refl
bad-says_none p t false long first e = not_head p.format t (no_entries (is_head p.format t) (sym (said-head p t first) ∙ e))

-- a line that is good isn't too long
good-short : (p : LineStart) (t : List ℕ) (es : List Entry) (b : Bool) → ltb (longest p.format) (length t) ≡ b → line_of p t ≡ Some es → b ≡ false
good-short p t es true long e = let none : line_of p t ≡ None = rw long refl in absurd cc
good-short p t es false long e = refl

or-none : (o : Option Settings) → option_or o None ≡ o
or-none None = refl
or-none (Some s) = refl

ahead-first : (r : CaptureReading) (o : List ℕ) → r.place.line ≡ 1 → settings_ahead r o ≡ settings_in (format_of r) (lines_in o)
ahead-first r o first = rw (eq-eqb r.place.line 1 first) refl

ahead-later : (r : CaptureReading) (o : List ℕ) → (r.place.line == 1) ≡ false → settings_ahead r o ≡ r.told
ahead-later r o later = rw later refl

line_is_first : (n : ℕ) → (n == 1) ≡ true → n ≡ 1
line_is_first n e = eqb-true n 1 e

later_line : (n : ℕ) → 1 ≤ n → ((n + 1) == 1) ≡ false
later_line n some = ne_eqb (n + 1) 1 (λ same. omega (arith, some, same))

told-first : (p : LineStart) (t : List ℕ) (told : Option Settings) → p.line ≡ 1 → told ≡ None → told_after p t told ≡ settings_said p.format t
told-first p t told first none = rw (eq-eqb p.line 1 first, none) (or-none (settings_said p.format t))

-- what is known after a good line
heads-good : (r : CaptureReading) (t x after : List ℕ) (es : List Entry) (ls : List (List ℕ)) → Waits r → lines_in x ≡ (r.left ++ t) ∷ ls → 0 < length ls → line_of r.place (r.left ++ t) ≡ Some es → settings_ahead r x ≡ settings_ahead (after_line r t es) after
heads-good r t x after es ls w cut some says =
    let later : settings_ahead (after_line r t es) after ≡ told_after r.place (r.left ++ t) r.told = ahead-later (after_line r t es) after (later_line r.place.line w.numbered) in
    elim (cases_Bool (r.place.line == 1)) [
      | inl is ↦
          let first = line_is_first r.place.line is in
          ahead-first r x first ∙ ap (settings_in (format_of r)) cut ∙ head-first (format_of r) (r.left ++ t) ls some
          ∙ ap (λ (b : Bool). cond b None (settings_said (format_of r) (r.left ++ t))) (good-short r.place (r.left ++ t) es (ltb (longest (format_of r)) (length (r.left ++ t))) refl says)
          ∙ sym (told-first r.place (r.left ++ t) r.told first (w.fresh first)) ∙ sym later
      | inr isnt ↦
          let same : told_after r.place (r.left ++ t) r.told ≡ r.told = rw isnt refl in
          ahead-later r x isnt ∙ sym same ∙ sym later
    ]

-- and with a bad line
heads-bad : (r : CaptureReading) (t x : List ℕ) (ls : List (List ℕ)) → Waits r → lines_in x ≡ t ∷ ls → 0 < length ls → line_of r.place t ≡ None → settings_ahead r x ≡ r.told
heads-bad r t x ls w cut some isnt =
    elim (cases_Bool (r.place.line == 1)) [
      | inl is ↦
          let first = line_is_first r.place.line is in
          ahead-first r x first ∙ ap (settings_in (format_of r)) cut ∙ head-first (format_of r) t ls some
          ∙ bad-says_none r.place t (ltb (longest (format_of r)) (length t)) refl first isnt ∙ sym (w.fresh first)
      | inr other ↦ ahead-later r x other
    ]

-- and with one that isn't finished
heads-last : (r : CaptureReading) (x : List ℕ) → Waits r → Lacks 10 x → settings_ahead r x ≡ r.told
heads-last r x w none =
    elim (cases_Bool (r.place.line == 1)) [
      | inl is ↦
          let first = line_is_first r.place.line is in
          ahead-first r x first ∙ ap (settings_in (format_of r)) (between-whole 10 x none) ∙ sym (w.fresh first)
      | inr other ↦ ahead-later r x other
    ]

-- ---- the octets of a piece that aren't read yet

-- an octet doesn't stand in either of two texts
pub lacks-append : (o : ℕ) (x y : List ℕ) → Lacks o x → Lacks o y → Lacks o (x ++ y)
lacks-append o x y p q = All-append (λ b. (b == o) ≡ false) x y p q

-- a line, and what follows it
first_line : (left text after x rest : List ℕ) → rest ≡ text ++ (10 ∷ after) → Lacks 10 left → Lacks 10 text → lines_in (left ++ (rest ++ x)) ≡ (left ++ text) ∷ lines_in (after ++ x)
first_line left text after x rest e p q =
    let regrouped : left ++ (rest ++ x) ≡ (left ++ text) ++ (10 ∷ (after ++ x)) =
    ap (λ (r : List ℕ). left ++ (r ++ x)) e ∙ ap (λ (r : List ℕ). left ++ r) (append_assoc text (10 ∷ after) x) ∙ sym (append_assoc left text (10 ∷ (after ++ x))) in
    between-cut 10 (left ++ (rest ++ x)) (left ++ text) (after ++ x) regrouped (lacks-append 10 left text p q)

-- what was read of a piece, and what is left of it
pub record IsAmid (first : CaptureReading) (piece : List ℕ) (old new : List Entry) (r : CaptureReading) (rest : List ℕ) : Type 0 where
  pub entries : List Entry
  pub added : new ≡ old ++ entries
  pub format : format_of r ≡ format_of first
  pub more : (x : List ℕ) → entries_from first.place (lines_in (first.left ++ (piece ++ x))) ≡ entries ++ entries_from r.place (lines_in (r.left ++ (rest ++ x)))
  pub faults : (x : List ℕ) → bad_from first.place (lines_in (first.left ++ (piece ++ x))) ≡ bad_from r.place (lines_in (r.left ++ (rest ++ x)))
  pub ends : (x : List ℕ) → end_from first.place (lines_in (first.left ++ (piece ++ x))) ≡ end_from r.place (lines_in (r.left ++ (rest ++ x)))
  pub heads : (x : List ℕ) → settings_ahead first (first.left ++ (piece ++ x)) ≡ settings_ahead r (r.left ++ (rest ++ x))
  pub waits : Waits r

pub amid-start : (r : CaptureReading) (piece : List ℕ) (old : List Entry) → Waits r → IsAmid r piece old old r piece
amid-start r piece old w = record { entries = []; added = sym (append-nil old); format = refl; more = λ x. refl; faults = λ x. refl; ends = λ x. refl; heads = λ x. refl; waits = w }

after_line-waits : (r : CaptureReading) (text : List ℕ) (es : List Entry) → Waits r → Waits (after_line r text es)
after_line-waits r text es w =
    let some = w.numbered in
    record { unfinished = λ k d lt. absurd (omega (arith, lt)); short = omega arith; numbered = omega (arith, some); fresh = λ same. absurd (omega (arith, some, same)) }

pub amid-line : (first : CaptureReading) (piece : List ℕ) (old now new es : List Entry) (r : CaptureReading) (rest text after : List ℕ) → IsAmid first piece old now r rest
    → rest ≡ text ++ (10 ∷ after) → Lacks 10 text → line_of r.place (r.left ++ text) ≡ Some es → new ≡ now ++ es
    → IsAmid first piece old new (after_line r text es) after
amid-line first piece old now new es r rest text after amid e none says grown =
    let cut = λ (x : List ℕ). first_line r.left text after x rest e amid.waits.unfinished none in
    record {
      entries = amid.entries ++ es;
      added = grown ∙ ap (λ (l : List Entry). l ++ es) amid.added ∙ append_assoc old amid.entries es;
      format = amid.format;
      more = λ x. amid.more x ∙ ap (λ (ls : List (List ℕ)). amid.entries ++ entries_from r.place ls) (cut x)
          ∙ ap (λ (l : List Entry). amid.entries ++ l) (entries-good r.place (r.left ++ text) es (lines_in (after ++ x)) (some_lines (after ++ x)) says)
          ∙ sym (append_assoc amid.entries es (entries_from (next r.place es) (lines_in (after ++ x))));
      faults = λ x. amid.faults x ∙ ap (bad_from r.place) (cut x) ∙ bad-good r.place (r.left ++ text) es (lines_in (after ++ x)) (some_lines (after ++ x)) says;
      ends = λ x. amid.ends x ∙ ap (end_from r.place) (cut x) ∙ end-good r.place (r.left ++ text) es (lines_in (after ++ x)) (some_lines (after ++ x)) says;
      heads = λ x. amid.heads x ∙ heads-good r text (r.left ++ (rest ++ x)) (after ++ x) es (lines_in (after ++ x)) amid.waits (cut x) (some_lines (after ++ x)) says;
      waits = after_line-waits r text es amid.waits;
    }

-- ---- whole readings

pub reads-start : (f : Format) → Reads [] (record { place = start f; told = None; left = [] })
unfolding entries_from
reads-start f = record { entries = λ x. refl; faults = λ x. refl; ends = λ x. refl; heads = λ x. refl; known = refl }

-- what a reader has read so far isn't bad
pub faultless : (o : List ℕ) (r : CaptureReading) → Reads o r → Waits r → bad (format_of r) o ≡ None
faultless o r reads w =
    ap (bad (format_of r)) (sym (append-nil o)) ∙ reads.faults [] ∙ ap (λ (l : List ℕ). bad_from r.place (lines_in l)) (append-nil r.left) ∙ bad-last_short r.place r.left w.unfinished w.short

-- what the end makes of a line that isn't finished
abbrev ended : LineStart → List ℕ → Option BadCapture
ended p last = cond ((length last == 0) && not (p.line == 1)) None (Some (record { line = p.line; column = column p last }))

end-last : (p : LineStart) (last : List ℕ) → Lacks 10 last → end_from p (lines_in last) ≡ ended p last
unfolding end_from
end-last p last none = ap (end_from p) (between-whole 10 last none)

pub at_end : (o : List ℕ) (r : CaptureReading) → Reads o r → Waits r → bad_at_end (format_of r) o ≡ cond ((length r.left == 0) && not (r.place.line == 1)) None (Some (record { line = r.place.line; column = column r.place r.left }))
at_end o r reads w =
    let ends : end_from (start (format_of r)) (lines_in o) ≡ ended r.place r.left =
    ap (λ (l : List ℕ). end_from (start (format_of r)) (lines_in l)) (sym (append-nil o)) ∙ reads.ends [] ∙ ap (λ (l : List ℕ). end_from r.place (lines_in l)) (append-nil r.left) ∙ end-last r.place r.left w.unfinished in
    ap (λ (b : Option BadCapture). option_or b (end_from (start (format_of r)) (lines_in o))) (faultless o r reads w) ∙ ends

-- ---- a piece after some octets

module _ (o piece : List ℕ) (first r : CaptureReading) (old now : List Entry) (rest : List ℕ) (reads : Reads o first) (amid : IsAmid first piece old now r rest) where
  abbrev f : Format
  f = format_of first

  whole : o ++ piece ≡ o ++ (piece ++ [])
  whole = ap (λ (p : List ℕ). o ++ p) (sym (append-nil piece))

  entries-amid : journal f (o ++ piece) ≡ journal f o ++ (amid.entries ++ entries_from r.place (lines_in (r.left ++ (rest ++ []))))
  entries-amid = ap (journal f) whole ∙ reads.entries (piece ++ []) ∙ ap (λ (l : List Entry). journal f o ++ l) (amid.more [])

  faults-amid : bad f (o ++ piece) ≡ bad_from r.place (lines_in (r.left ++ (rest ++ [])))
  faults-amid = ap (bad f) whole ∙ reads.faults (piece ++ []) ∙ amid.faults []

  heads-amid : settings f (o ++ piece) ≡ settings_ahead r (r.left ++ (rest ++ []))
  heads-amid = ap (settings f) whole ∙ reads.heads (piece ++ []) ∙ amid.heads []

  pub adds-front : AddsFront f o piece old now
  adds-front = record { entries = amid.entries; others = entries_from r.place (lines_in (r.left ++ (rest ++ []))); added = amid.added; more = entries-amid }

  adds-all : entries_from r.place (lines_in (r.left ++ (rest ++ []))) ≡ [] → Adds f o piece old now
  adds-all none = record {
    entries = amid.entries;
    added = amid.added;
    more = entries-amid ∙ ap (λ (l : List Entry). journal f o ++ (amid.entries ++ l)) none ∙ ap (λ (l : List Entry). journal f o ++ l) (append-nil amid.entries);
  }

  -- a bad line that a line feed ends
  pub refused-line : (text after : List ℕ) → rest ≡ text ++ (10 ∷ after) → Lacks 10 text → line_of r.place (r.left ++ text) ≡ None
      → (bad f (o ++ piece) ≡ Some (bad_line r.place (r.left ++ text))) × Adds f o piece old now × (r.told ≡ settings f (o ++ piece))
  refused-line text after e none isnt =
      let cut = first_line r.left text after [] rest e amid.waits.unfinished none in
      let others = some_lines (after ++ []) in (
        faults-amid ∙ ap (bad_from r.place) cut ∙ bad-bad r.place (r.left ++ text) (lines_in (after ++ [])) others isnt,
        adds-all (ap (entries_from r.place) cut ∙ entries-bad r.place (r.left ++ text) (lines_in (after ++ [])) others isnt),
        sym (heads-amid ∙ heads-bad r (r.left ++ text) (r.left ++ (rest ++ [])) (lines_in (after ++ [])) amid.waits cut others isnt),
      )

  unended : Lacks 10 rest → Lacks 10 (r.left ++ rest)
  unended none = lacks-append 10 r.left rest amid.waits.unfinished none

  no_more : r.left ++ (rest ++ []) ≡ r.left ++ rest
  no_more = ap (λ (l : List ℕ). r.left ++ l) (append-nil rest)

  none-added : Lacks 10 rest → Adds f o piece old now
  none-added none = adds-all (ap (λ (l : List ℕ). entries_from r.place (lines_in l)) no_more ∙ entries-last r.place (r.left ++ rest) (unended none))

  known-last : Lacks 10 rest → r.told ≡ settings f (o ++ piece)
  known-last none = sym (heads-amid ∙ ap (settings_ahead r) no_more ∙ heads-last r (r.left ++ rest) amid.waits (unended none))

  -- a line that is too long, with no line feed yet
  pub refused-end : Lacks 10 rest → longest (format_of r) < length (r.left ++ rest)
      → (bad f (o ++ piece) ≡ Some (bad_line r.place (r.left ++ rest))) × Adds f o piece old now × (r.told ≡ settings f (o ++ piece))
  refused-end none long = (
    faults-amid ∙ ap (λ (l : List ℕ). bad_from r.place (lines_in l)) no_more ∙ bad-last_long r.place (r.left ++ rest) (unended none) long,
    none-added none,
    known-last none,
  )

  -- all of the piece is read
  pub read-all : Lacks 10 rest → length (r.left ++ rest) ≤ longest (format_of r)
      → Reads (o ++ piece) (record { place = r.place; told = r.told; left = r.left ++ rest }) × Adds f o piece old now × (bad f (o ++ piece) ≡ None)
  unfolding none-added adds-all
  read-all none short =
      let more = none-added none in
      let again = λ (x : List ℕ). sym (append_assoc r.left rest x) in (
        record {
          entries = λ x. ap (λ (g : Format). journal g ((o ++ piece) ++ x)) amid.format ∙ ap (journal f) (append_assoc o piece x) ∙ reads.entries (piece ++ x) ∙ ap (λ (l : List Entry). journal f o ++ l) (amid.more x)
              ∙ sym (append_assoc (journal f o) amid.entries (entries_from r.place (lines_in (r.left ++ (rest ++ x)))))
              ∙ ap (λ (l : List Entry). l ++ entries_from r.place (lines_in (r.left ++ (rest ++ x)))) (sym more.more)
              ∙ ap (λ (l : List ℕ). journal f (o ++ piece) ++ entries_from r.place (lines_in l)) (again x)
              ∙ ap (λ (g : Format). journal g (o ++ piece) ++ entries_from r.place (lines_in ((r.left ++ rest) ++ x))) (sym amid.format);
          faults = λ x. ap (λ (g : Format). bad g ((o ++ piece) ++ x)) amid.format ∙ ap (bad f) (append_assoc o piece x) ∙ reads.faults (piece ++ x) ∙ amid.faults x ∙ ap (λ (l : List ℕ). bad_from r.place (lines_in l)) (again x);
          ends = λ x. ap (λ (g : Format). end_from (start g) (lines_in ((o ++ piece) ++ x))) amid.format ∙ ap (λ (l : List ℕ). end_from (start f) (lines_in l)) (append_assoc o piece x) ∙ reads.ends (piece ++ x) ∙ amid.ends x ∙ ap (λ (l : List ℕ). end_from r.place (lines_in l)) (again x);
          heads = λ x. ap (λ (g : Format). settings g ((o ++ piece) ++ x)) amid.format ∙ ap (settings f) (append_assoc o piece x) ∙ reads.heads (piece ++ x) ∙ amid.heads x ∙ ap (settings_ahead r) (again x);
          known = known-last none ∙ ap (λ (g : Format). settings g (o ++ piece)) (sym amid.format);
        },
        more,
        faults-amid ∙ ap (λ (l : List ℕ). bad_from r.place (lines_in l)) no_more ∙ bad-last_short r.place (r.left ++ rest) (unended none) short,
      )

pub refuses-weaker : (e : CaptureFault) (P Q : BadCapture → Type 0) → ((b : BadCapture) → P b → Q b) → Refuses e P → Refuses e Q
refuses-weaker (Bad b) P Q f p = f b p
refuses-weaker OutOfMemory P Q f p = tt

-- the same list under another name
pub amid-out : (first : CaptureReading) (piece : List ℕ) (old now new : List Entry) (r : CaptureReading) (rest : List ℕ) → IsAmid first piece old now r rest → new ≡ now → IsAmid first piece old new r rest
amid-out first piece old now new r rest amid e = subst (λ (l : List Entry). IsAmid first piece old l r rest) (sym e) amid

pub amid-at : (first : CaptureReading) (piece : List ℕ) (old now : List Entry) (r s : CaptureReading) (rest : List ℕ) → IsAmid first piece old now r rest → s ≡ r → IsAmid first piece old now s rest
amid-at first piece old now r s rest amid e = subst (λ (q : CaptureReading). IsAmid first piece old now q rest) (sym e) amid
