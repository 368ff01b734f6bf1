-- The lines that are kept of what a node tells.
use Rattle.std.specs.Prelude.{◌≡◌, ℕ, Bool, true, false, List, ◌++◌}
use Rattle.zre_peer.specs.Lines.{line}
use Rattle.zre_peer.specs.declared.event.Event.TheVariants.{Evasive}
use Rattle.zre_records.specs.declared.replay.event_lines.EvasiveLine.{EvasiveLine}

-- a line that is kept is that of EVASIVE of its peer
abbrev pub Kept : EvasiveLine → Type 0
Kept k = k.line ≡ line (Evasive k.id k.name)

-- a line was appended, or nothing
abbrev pub TellsWhere : Bool → List ℕ → List ℕ → List ℕ → Type 0
TellsWhere true text out out' = out' ≡ out ++ text
TellsWhere false text out out' = out' ≡ out
