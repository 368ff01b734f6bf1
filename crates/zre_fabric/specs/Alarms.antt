-- What a source that heeds an alarm stands on, and whether it is over.
use Rattle.std.specs.Prelude.{Bool}
use Rattle.zre_fabric.specs.declared.heeding.Heeding.{Heeding}

-- the source under it
abbrev pub heeding_under : {S : Type 0} → Heeding S → S
heeding_under h = h.inner

-- the alarm was raised, and it has found that out
abbrev pub is_over : {S : Type 0} → Heeding S → Bool
is_over h = h.is_over
