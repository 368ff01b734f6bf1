-- What writing entries in format 2 does to the text.
use Rattle.std.specs.Prelude.{◌≡◌, ℕ, List, ◌++◌}
use Rattle.zre_capture.specs.Journal.{last_reading}
use Rattle.zre_capture.specs.Lines.{lines}
use Rattle.zre_capture.specs.declared.format.Format.TheVariants.{Second}
use Rattle.zre_outside.specs.declared.entry.Entry.{Entry}

-- entries were written after a journal, and the last reading is this one
pub record Wrote (J es : List Entry) (at : ℕ) (out out' : List ℕ) : Type 0 where
  pub last : at ≡ last_reading 0 (J ++ es)
  pub added : List ℕ
  pub more : lines Second 0 (J ++ es) ≡ lines Second 0 J ++ added
  pub appended : out' ≡ out ++ added
