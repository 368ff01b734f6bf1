-- A capture of format 2 that is read in pieces, and what is made of its settings.
use Rattle.std.specs.Prelude.{◌≡◌, ℕ, List, ◌++◌}
use Rattle.zre_capture.specs.Journal.{journal, settings}
use Rattle.zre_capture.specs.declared.format.Format.TheVariants.{Second}
use Rattle.zre_values.specs.declared.settings.Settings.{Settings as Config}
use Rattle.zre_outside.specs.declared.entry.Entry.{Entry}
use Rattle.zre_records.specs.declared.replay.headed.Headed.{Headed}
use Rattle.zre_records.specs.replay.Lives.{Made}
use Rattle.zre_records.specs.replay.State.{IsState}

-- these octets were read, and what was made took their journal
pub record Follows {N : Type 0} (stands : Config → List Entry → N → Type 0) (h : Headed N) (o : List ℕ) : Type 0 where
  pub reads : IsState Second h.pieces.state o
  pub lives : Made stands (settings Second o) (journal Second o) h.made

-- a piece after the octets o was read: what lives with the settings that are told by now stands for what was read
-- before, and these entries are the next for it
pub record HasRead {N : Type 0} (stands : Config → List Entry → N → Type 0) (o piece : List ℕ) (entries : List Entry)
    (h : Headed N) : Type 0 where
  pub reads : IsState Second h.pieces.state (o ++ piece)
  pub lives : Made stands (settings Second (o ++ piece)) (journal Second o) h.made
  pub more : journal Second (o ++ piece) ≡ journal Second o ++ entries
