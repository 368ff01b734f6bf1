-- The second of two captures, as it is read.
use Rattle.std.specs.Prelude.{ℕ, List, Option}
use Rattle.zre_values.specs.declared.settings.Settings.{Settings}
use Rattle.zre_records.specs.audit.Again.{IsSeen}
use Rattle.zre_records.specs.audit.Watched.{Watched}
use Rattle.zre_records.specs.declared.audit.later.Later.{Later}

-- these octets of it were read, where these settings are told of the node of the first
pub record IsLater (told : Option Settings) (o : List ℕ) (later : Later) : Type 0 where
  pub follows : Watched later.capture o
  pub seen : IsSeen told o later.again
