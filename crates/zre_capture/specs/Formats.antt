-- The formats of captures.
use Rattle.std.specs.Prelude.{ℕ}
use Rattle.zre_capture.specs.declared.format.Format.{Format}
use Rattle.zre_capture.specs.declared.format.Format.TheVariants.{First, Second}
use Rattle.zre_capture.specs.declared.format.TheConstants.{LINE_OCTETS, LINE_OCTETS_2}

-- as many octets as a line may have before its line feed
abbrev pub longest : Format → ℕ
longest First = LINE_OCTETS
longest Second = LINE_OCTETS_2
