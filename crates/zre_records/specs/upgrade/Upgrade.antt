-- What `upgrade` makes of the octets of a capture of format 1.
use Rattle.std.specs.Prelude.{ℕ, List}
use Rattle.zre_capture.specs.Journal.{journal, capture}
use Rattle.zre_capture.specs.declared.format.Format.TheVariants.{First, Second}
use Rattle.zre_values.specs.declared.settings.Settings.{Settings}
use Rattle.zre_commands.specs.pump.Meaning.{Meaning}
use Rattle.zre_records.specs.replay.Capture.{of_capture}

-- the capture of format 2 of these settings and of its journal
unfoldable pub text : Settings → List ℕ → List ℕ
text s o = capture Second s (journal First o)

-- all that `upgrade` makes of octets
abbrev pub upgrade : Settings → Meaning
upgrade s = of_capture First (text s)
