-- What `replay` makes of the octets of a capture.
use Rattle.std.specs.Prelude.{ℕ, List, []}
use Rattle.std.specs.Option.{option_map_or}
use Rattle.zre_capture.specs.Journal.{journal, settings}
use Rattle.zre_capture.specs.declared.format.Format.TheVariants.{First, Second}
use Rattle.zre_values.specs.declared.settings.Settings.{Settings as Config}
use Rattle.zre_journal.specs.Events.{events}
use Rattle.zre_peer.specs.Lines.{lines}
use Rattle.zre_commands.specs.pump.Meaning.{Meaning}
use Rattle.zre_records.specs.replay.Capture.{of_capture}

-- the lines of the events of the journal of a capture of format 1, for a node with these settings
abbrev pub text : Config → List ℕ → List ℕ
text g o = lines (events g (journal First o))

-- all that `replay` makes of octets with the settings of a node
abbrev pub replay : Config → Meaning
replay g = of_capture First (text g)

-- the lines of the events of the journal of a capture of format 2, for the node of its settings: there are none before
-- those are told
abbrev pub told_text : List ℕ → List ℕ
told_text o = option_map_or (λ s. lines (events s (journal Second o))) (settings Second o) []

-- all that `replay` makes of octets without words
abbrev pub told_replay : Meaning
told_replay = of_capture Second told_text
