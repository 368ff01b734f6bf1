-- Captures as they are read: the settings and the journal of a capture, and where a capture is bad. Its lines are what
-- stands between line feeds; what stands after the last line feed isn't finished yet.
use Rattle.std.specs.Prelude.{◌≡◌, ℕ, ◌+◌, ◌≤◌, ◌==◌, Bool, nat_lt, not, ◌&&◌, if◌then◌else◌, List, [], ◌∷◌, ◌++◌}
use Rattle.std.specs.Prelude.{length, Option, Some, None, is_some, option_map, codes}
use Rattle.std.specs.Option.{option_map_or, option_or}
use Rattle.std.specs.Str.{bytes_eq}
use Rattle.zre_outside.specs.declared.entry.Entry.{Entry}
use Rattle.zre_capture.specs.Formats.{longest}
use Rattle.zre_capture.specs.Heads.{head}
use Rattle.zre_capture.specs.Lines.{lines}
use Rattle.zre_capture.specs.Parts.{between, Lacks}
use Rattle.zre_capture.specs.Reading.{settings_of, entry_of, column, bad_column}
use Rattle.zre_capture.specs.declared.fault.BadCapture.{BadCapture}
use Rattle.zre_capture.specs.declared.fault.CaptureFault.{CaptureFault}
use Rattle.zre_capture.specs.declared.fault.CaptureFault.TheVariants.{Bad, OutOfMemory}
use Rattle.zre_capture.specs.declared.format.Format.{Format}
use Rattle.zre_capture.specs.declared.format.Format.TheVariants.{First, Second}
use Rattle.zre_capture.specs.declared.line_start.LineStart.{LineStart}
use Rattle.zre_values.specs.declared.settings.Settings.{Settings}

-- what stands between line feeds
abbrev pub lines_in : List ℕ → List (List ℕ)
lines_in o = between 10 o

-- ---- one line

-- the settings that a head says: format 1 has none
abbrev pub settings_said : Format → List ℕ → Option Settings
settings_said First text = None
settings_said Second text = settings_of text

-- whether a line is a head
abbrev pub is_head : Format → List ℕ → Bool
is_head First text = bytes_eq text (codes "zre-capture 1")
is_head Second text = is_some (settings_of text)

-- what a line that isn't too long says, by its place: the head no entry, another line one. A bad line says nothing.
unfoldable pub said : LineStart → List ℕ → Option (List Entry)
said p text =
    if p.line == 1 then (if is_head p.format text then Some [] else None)
    else option_map (λ e. e ∷ []) (entry_of p.format p.before text)

-- what a line says
abbrev pub line_of : LineStart → List ℕ → Option (List Entry)
line_of p text = if nat_lt (longest p.format) (length text) then None else said p text

-- where a bad line is bad
abbrev pub bad_line : LineStart → List ℕ → BadCapture
bad_line p text = record { line = p.line; column = bad_column p text }

-- ---- all lines

-- the reading of the last of some entries, or the one before where there are none
abbrev pub last_reading : ℕ → List Entry → ℕ
last_reading before [] = before
last_reading before (e ∷ es) = last_reading e.at es

-- the place after a line that says these entries
abbrev pub next : LineStart → List Entry → LineStart
next p es = record { format = p.format; line = p.line + 1; before = last_reading p.before es }

-- the settings that are known after it
abbrev pub told_after : LineStart → List ℕ → Option Settings → Option Settings
told_after p text told = if p.line == 1 then option_or (settings_said p.format text) told else told

-- the entries of lines, the first of which is at this place, up to the first bad line; the last isn't finished
unfoldable pub entries_from : LineStart → List (List ℕ) → List Entry
entries_from p [] = []
entries_from p (last ∷ []) = []
entries_from p (text ∷ after ∷ more) =
    option_map_or (λ es. es ++ entries_from (next p es) (after ∷ more)) (line_of p text) []

-- the first bad line of these; the last isn't finished, and is bad only where it is too long already
unfoldable pub bad_from : LineStart → List (List ℕ) → Option BadCapture
bad_from p [] = None
bad_from p (last ∷ []) = if nat_lt (longest p.format) (length last) then Some (bad_line p last) else None
bad_from p (text ∷ after ∷ more) =
    option_map_or (λ es. bad_from (next p es) (after ∷ more)) (line_of p text) (Some (bad_line p text))

-- what the end of the input makes bad: a last line without a line feed, and nothing at all in place of the head
unfoldable pub end_from : LineStart → List (List ℕ) → Option BadCapture
end_from p [] = None
end_from p (last ∷ []) =
    if (length last == 0) && not (p.line == 1) then None else Some (record { line = p.line; column = column p last })
end_from p (text ∷ after ∷ more) = option_map_or (λ es. end_from (next p es) (after ∷ more)) (line_of p text) None

-- the settings that the first of some lines says, once it is finished
abbrev pub settings_in : Format → List (List ℕ) → Option Settings
settings_in f [] = None
settings_in f (last ∷ []) = None
settings_in f (text ∷ after ∷ more) = if nat_lt (longest f) (length text) then None else settings_said f text

-- ---- captures

-- before the head
abbrev pub start : Format → LineStart
start f = record { format = f; line = 1; before = 0 }

-- the settings of a capture, of which this much has come
abbrev pub settings : Format → List ℕ → Option Settings
settings f o = settings_in f (lines_in o)

-- its journal
abbrev pub journal : Format → List ℕ → List Entry
journal f o = entries_from (start f) (lines_in o)

-- where it is bad, whatever follows
abbrev pub bad : Format → List ℕ → Option BadCapture
bad f o = bad_from (start f) (lines_in o)

-- where it is bad, if nothing follows
abbrev pub bad_at_end : Format → List ℕ → Option BadCapture
bad_at_end f o = option_or (bad f o) (end_from (start f) (lines_in o))

-- a node's settings and a journal as they are written
abbrev pub capture : Format → Settings → List Entry → List ℕ
capture f s es = head f s ++ lines f 0 es

-- the settings that are told of a node: format 1 tells none
abbrev pub told_settings : Format → Settings → Option Settings
told_settings First s = None
told_settings Second s = Some s

-- a whole capture of these settings and entries: they are its settings and its journal, and nothing in it is bad
pub record IsCaptureOf (f : Format) (s : Settings) (es : List Entry) (o : List ℕ) : Type 0 where
  pub settings_are : settings f o ≡ told_settings f s
  pub entries : journal f o ≡ es
  pub faultless : bad f o ≡ None
  pub whole : bad_at_end f o ≡ None

-- ---- reading

-- what a reader keeps: the place of the line that it reads, the settings that the head said, and what has come of that
-- line
pub record CaptureReading : Type 0 where
  pub place : LineStart
  pub told : Option Settings
  pub left : List ℕ

-- the format that is read
abbrev pub format_of : CaptureReading → Format
format_of r = r.place.format

-- what it keeps after a line feed that ends such a line
abbrev pub after_line : CaptureReading → List ℕ → List Entry → CaptureReading
after_line r text es = record {
  place = next r.place es;
  told = told_after r.place (r.left ++ text) r.told;
  left = [];
}

-- it has refused nothing
pub record Waits (r : CaptureReading) : Type 0 where
  pub unfinished : Lacks 10 r.left
  pub short : length r.left ≤ longest (format_of r)
  pub numbered : 1 ≤ r.place.line
  pub fresh : r.place.line ≡ 1 → r.told ≡ None

-- the settings that it will know, with what it keeps and what follows it
abbrev pub settings_ahead : CaptureReading → List ℕ → Option Settings
settings_ahead r o = if r.place.line == 1 then settings_in (format_of r) (lines_in o) else r.told

-- it has read these octets: what it keeps tells what those that follow say
pub record Reads (o : List ℕ) (r : CaptureReading) : Type 0 where
  pub entries : (x : List ℕ) → journal (format_of r) (o ++ x)
      ≡ journal (format_of r) o ++ entries_from r.place (lines_in (r.left ++ x))
  pub faults : (x : List ℕ) → bad (format_of r) (o ++ x) ≡ bad_from r.place (lines_in (r.left ++ x))
  pub ends : (x : List ℕ) → end_from (start (format_of r)) (lines_in (o ++ x))
      ≡ end_from r.place (lines_in (r.left ++ x))
  pub heads : (x : List ℕ) → settings (format_of r) (o ++ x) ≡ settings_ahead r (r.left ++ x)
  pub known : r.told ≡ settings (format_of r) o

-- a list has grown by what a piece after o adds to the journal
pub record Adds (f : Format) (o piece : List ℕ) (old new : List Entry) : Type 0 where
  pub entries : List Entry
  pub added : new ≡ old ++ entries
  pub more : journal f (o ++ piece) ≡ journal f o ++ entries

-- the same of a front of what it adds
pub record AddsFront (f : Format) (o piece : List ℕ) (old new : List Entry) : Type 0 where
  pub entries : List Entry
  pub others : List Entry
  pub added : new ≡ old ++ entries
  pub more : journal f (o ++ piece) ≡ journal f o ++ (entries ++ others)

-- a refusal tells the bad place; OutOfMemory has no cause
abbrev pub Refuses : CaptureFault → (BadCapture → Type 0) → Type 0
Refuses (Bad place) P = P place
Refuses OutOfMemory P = Unit {0}
