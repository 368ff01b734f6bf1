-- How far the octets of a capture are read.
use Rattle.std.specs.Prelude.{◌≡◌, ℕ, List, ◌++◌, Some, None}
use Rattle.zre_capture.specs.Journal.{Reads, format_of, journal, settings, bad}
use Rattle.zre_capture.specs.declared.format.Format.{Format}
use Rattle.zre_outside.specs.declared.entry.Entry.{Entry}
use Rattle.zre_records.specs.declared.replay.reading.State.{State}
use Rattle.zre_records.specs.declared.replay.reading.State.TheVariants.{Going, Bad, Lost}

-- these octets were read: they are bad, and the reader knows their settings; or the reader stands after them
abbrev pub IsState : Format → State → List ℕ → Type 0
IsState f (Going w) o = (bad f o ≡ None) × Reads o w.reader × (format_of w.reader ≡ f)
IsState f (Bad r) o = (bad f o ≡ Some r.bad) × (r.reader.told ≡ settings f o)
IsState f Lost o = ⊥

-- a piece after o was read: these entries are added by it
pub record IsRead (f : Format) (o piece : List ℕ) (state : State) (entries : List Entry) : Type 0 where
  pub is : IsState f state (o ++ piece)
  pub more : journal f (o ++ piece) ≡ journal f o ++ entries
