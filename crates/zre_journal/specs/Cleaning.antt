-- What a tick of the clock leaves.
use Rattle.std.specs.Prelude.{◌≡◌, false, List}
use Rattle.std.specs.List.{AllByRecursion}
use Rattle.zre_values.specs.declared.settings.Settings.{Settings as Config}
use Rattle.zre_journal.specs.Chronicle.{Mark}
use Rattle.zre_journal.specs.Connections.{open_ones}
use Rattle.zre_journal.specs.Peers.{Life, lives}
use Rattle.zre_journal.specs.Ticks.{is_silent, is_stale}

-- No known peer was silent for the time after which it expires, and no open connection ran no peer for that time.
pub record IsClean (g : Config) (H : List Mark) : Type 0 where
  pub none_silent : AllByRecursion (λ (v : Life). is_silent g g.expired H v ≡ false) (lives H)
  pub none_stale : AllByRecursion (λ c. is_stale g H c ≡ false) (open_ones H)
