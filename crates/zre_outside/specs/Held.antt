-- Octets in memory, cut at a place.
use Rattle.std.specs.Prelude.{take, drop}
use Rattle.zre_outside.specs.declared.held.Held.{Held}
use Rattle.zre_outside.specs.Memory.{SourceReading}

-- what is after the place, and what is before it
abbrev pub reading_of : Held → SourceReading
reading_of h = record { left = drop h.at h.all; taken = take h.at h.all }
