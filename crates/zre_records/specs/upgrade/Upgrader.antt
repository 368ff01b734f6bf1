-- What the machine of `upgrade` knows of the octets that it was fed.
use Rattle.std.specs.Prelude.{◌≡◌, ℕ, List}
use Rattle.zre_capture.specs.Journal.{journal, last_reading}
use Rattle.zre_capture.specs.declared.format.Format.TheVariants.{First}
use Rattle.zre_values.specs.declared.settings.Settings.{Settings}
use Rattle.zre_records.specs.declared.upgrade.upgrader.Upgrader.{Upgrader}
use Rattle.zre_records.specs.replay.State.{IsState}

-- the settings of the head
abbrev pub settings_of : Upgrader → Settings
settings_of u = u.settings

-- the machine was fed these octets: its reader stands after them, and it knows the last reading in their journal
pub record Fed (u : Upgrader) (o : List ℕ) : Type 0 where
  pub reads : IsState First u.pieces.state o
  pub before : u.before ≡ last_reading 0 (journal First o)
