-- What a source that rings a bell stands on.
use Rattle.zre_fabric.specs.declared.bell.Ringing.{Ringing}

-- the source under it
abbrev pub source_under : {S : Type 0} → Ringing S → S
source_under r = r.inner
