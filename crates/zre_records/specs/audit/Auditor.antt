-- What the machine of `audit` knows of the octets that it was fed.
use Rattle.std.specs.Prelude.{ℕ, List, [], ◌∷◌, ◌++◌, Option, Some, None}
use Rattle.zre_capture.specs.Journal.{settings}
use Rattle.zre_capture.specs.declared.format.Format.TheVariants.{Second}
use Rattle.zre_values.specs.declared.settings.Settings.{Settings}
use Rattle.zre_records.specs.audit.Cut.{mark}
use Rattle.zre_records.specs.audit.Later.{IsLater}
use Rattle.zre_records.specs.audit.Seam.{Seeking, HasPassed, before_seam, from_seam}
use Rattle.zre_records.specs.audit.Watched.{Watched}
use Rattle.zre_records.specs.declared.audit.auditor.Auditor.{Auditor}
use Rattle.zre_records.specs.declared.audit.later.Later.{Later}

-- before any octet
abbrev pub unseen : Seeking
unseen = record { awaited = None; lines = 0 }

-- the second capture is read from its mark on
abbrev pub HasBegun : Option Settings → List ℕ → Option Later → Type 0
HasBegun told [] None = Unit {0}
HasBegun told [] (Some l) = ⊥
HasBegun told (b ∷ o) None = ⊥
HasBegun told (b ∷ o) (Some l) = IsLater told (mark ++ b ∷ o) l

-- the machine was fed these octets. The first capture was handed the mark of the second too: it is no line yet, and
-- tells nothing.
pub record Fed (a : Auditor) (o : List ℕ) : Type 0 where
  pub seam : HasPassed unseen (before_seam o) a.seam
  pub first : Watched a.first (before_seam o)
  pub second : HasBegun (settings Second (before_seam o)) (from_seam o) a.second
