-- What the machine of `replay` knows of the octets that it was fed.
use Rattle.std.specs.Prelude.{ℕ, List}
use Rattle.zre_capture.specs.Journal.{journal}
use Rattle.zre_capture.specs.declared.format.Format.TheVariants.{First}
use Rattle.zre_values.specs.declared.settings.Settings.{Settings as Config}
use Rattle.zre_node.specs.Journal.{StandsFor}
use Rattle.zre_records.specs.declared.replay.replayer.Replayer.{Replayer}
use Rattle.zre_records.specs.replay.State.{IsState}

-- the settings of the node
abbrev pub config_of : Replayer → Config
config_of r = r.config

-- the machine was fed these octets: its reader stands after them, and its node after their journal
pub record Fed (r : Replayer) (o : List ℕ) : Type 0 where
  pub reads : IsState First r.pieces.state o
  pub stands : StandsFor r.config (journal First o) r.node
