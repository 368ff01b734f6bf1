-- What wakes another part of a node.
use Rattle.std.specs.Prelude.{Bool, is_none}
use Rattle.zre_fabric.specs.declared.notifier.Notifier.{Notifier}

-- it wakes nobody
abbrev pub is_silent : {L : Type 0} → Notifier L → Bool
is_silent n = is_none n.line
